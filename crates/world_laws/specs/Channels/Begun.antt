-- SPDX-License-Identifier: MIT OR Apache-2.0
-- The channels on which the mobile of a connection may be are active.
use Rattle.std.specs.Prelude.{◌≡◌, ℕ, true, List, [], ◌∷◌}
use Rattle.std.specs.List.{AllByRecursion}
use Rattle.world_laws.specs.Prelude.{Channel, State, WaitActivation, WaitEstablish, Closed, Removed}
use Rattle.world_laws.specs.Prelude.{Connection, place_of, AreAllowed}
use Rattle.world_laws.specs.Prelude.{Parameters, Event, Actors, is_station_up}
use Rattle.world_laws.specs.Runs.{world}
use Rattle.world_model.specs.OwnerLines.{to_arrive}
use Rattle.world_laws.specs.LineUps.{commanded_target}
use Rattle.world_laws.specs.OthersFrame.{TookOctets, IsHad}
use Rattle.world_laws.specs.OwnFrame.{IsRequested}
use Rattle.world_laws.specs.Seated.{AreActiveAt, commanded_channels}

-- The channels whose ACTIVATION ACK an open connection took: the serving channel, and the target to
-- which the mobile was commanded.
abbrev pub begun_in : State → Channel → List Channel
begun_in WaitActivation serving = []
begun_in (Closed clearing) serving = []
begun_in Removed serving = []
begun_in state serving = serving ∷ commanded_channels (commanded_target state)

-- No acknowledgement of these channels is on its way, or due for an entry that waits for their
-- stations.
abbrev pub HasBegun : Actors → Connection → Type 0
HasBegun w s = AllByRecursion (λ c. to_arrive w (place_of c) ≡ []) (begun_in s.state s.serving)

abbrev pub BegunIsTaken : Parameters → List Event → Type 0
BegunIsTaken settings events =
    (s : Connection) → AreAllowed settings → TookOctets settings events
    → IsHad (world settings events) s → HasBegun (world settings events) s

-- If an open connection asked the switch for its connection, its serving channel and the target to
-- which its mobile was commanded are active, each if the link of its station is up.
abbrev pub ServedAreActive : Parameters → List Event → Type 0
ServedAreActive settings events =
    (station : ℕ) (s : Connection) → AreAllowed settings → TookOctets settings events
    → IsHad (world settings events) s → IsRequested s.state
    → is_station_up (world settings events) station ≡ true
    → AreActiveAt station (world settings events) s

-- If a connection waits for its initial message and the link of its serving channel's station is
-- up, the serving channel is active.
abbrev pub EstablishedAreActive : Parameters → List Event → Type 0
EstablishedAreActive settings events =
    (station : ℕ) (s : Connection) → AreAllowed settings → TookOctets settings events
    → IsHad (world settings events) s → s.state ≡ WaitEstablish
    → is_station_up (world settings events) station ≡ true
    → AreActiveAt station (world settings events) s
