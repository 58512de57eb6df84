-- SPDX-License-Identifier: MIT OR Apache-2.0
-- The switch takes each entry as it was put. If the switch refuses the connection of an entry, it
-- never hears of the connection.
use Rattle.std.specs.Prelude.{◌≡◌, ◌⊎◌, ℕ, ◌≤◌, true, List, [], find, Some}
use Rattle.std.specs.Prelude.{None}
use Rattle.world_laws.specs.Prelude.{SWITCH_LINK, State, WaitActivation, WaitEstablish}
use Rattle.world_laws.specs.Prelude.{Connection, IsThere, connection_of}
use Rattle.world_laws.specs.Prelude.{SwitchConnection, AreAllowed, Parameters, Event, SwitchTakes}
use Rattle.world_laws.specs.Prelude.{actors_after, Actors}
use Rattle.world_laws.specs.Prelude.{is_up, outbox_of}
use Rattle.world_laws.specs.Runs.{world}
use Rattle.msc_end.specs.Switch.{connection_of as switch_connection_of}
use Rattle.world_laws.specs.LineUps.{is_of_peer, waiting_of}
use Rattle.world_laws.specs.AccountedFor.{IsUnknownForGood}
use Rattle.world_laws.specs.OthersFrame.{TookOctets}
use Rattle.world_laws.specs.KeptLineUps.{DeliversFirst}
use Rattle.world_laws.specs.References.Agree.{NamesAgree}
use Rattle.world_laws.specs.References.Over.{TakesOctets}

-- A connection in this state is open and hasn't asked the switch for its connection.
abbrev pub IsEarlyIn : State → Type 0
IsEarlyIn WaitActivation = Unit {0}
IsEarlyIn WaitEstablish = Unit {0}
IsEarlyIn _ = ⊥

pub record HasNotAsked (w : Actors) (number : ℕ) : Type 0 where
  pub own : Connection
  pub there : connection_of w.controller number ≡ Some own
  pub is_early : IsEarlyIn own.state

-- The switch has no connection for this number, and no message of the connection waits for the
-- switch.
pub record IsUnknownToSwitch (w : Actors) (number : ℕ) : Type 0 where
  pub none_taken : find (is_of_peer number) w.switch.connections ≡ None
  pub none_waits : waiting_of w number ≡ []

-- Each connection of the switch has a number of the controller as its peer, and no other connection
-- of the switch has this peer.
abbrev pub ArePeers : Actors → Type 0
ArePeers w =
    (connection : ℕ) (c : SwitchConnection)
    → switch_connection_of w.switch.connections connection ≡ Some c
    → (1 ≤ c.peer) × (find (is_of_peer c.peer) w.switch.connections ≡ Some c)

-- ---- laws of runs. Assumes: allowed settings; the controller took only octets

abbrev pub NamesAlwaysAgree : Parameters → List Event → Type 0
NamesAlwaysAgree settings events =
    AreAllowed settings → TookOctets settings events → NamesAgree (world settings events)

abbrev pub PeersDiffer : Parameters → List Event → Type 0
PeersDiffer settings events =
    AreAllowed settings → TookOctets settings events → ArePeers (world settings events)

abbrev pub SwitchDeliversOrRefuses : Parameters → List Event → Type 0
SwitchDeliversOrRefuses settings events =
    (number : ℕ) → AreAllowed settings → TookOctets settings events → 1 ≤ number
    → is_up (world settings events) SWITCH_LINK ≡ true
    → DeliversFirst (world settings events) number (outbox_of (world settings events) SWITCH_LINK)
    ⊎ IsUnknownForGood (actors_after (world settings events) SwitchTakes) number

abbrev pub UnknownRemainUnknown : Parameters → List Event → Event → Type 0
UnknownRemainUnknown settings events event =
    (number : ℕ) → AreAllowed settings → TookOctets settings events
    → TakesOctets (world settings events) event → 1 ≤ number
    → IsUnknownForGood (world settings events) number
    → IsUnknownForGood (actors_after (world settings events) event) number

abbrev pub UnaskedAreUnknown : Parameters → List Event → Type 0
UnaskedAreUnknown settings events =
    (number : ℕ) → AreAllowed settings → TookOctets settings events → 1 ≤ number
    → ((world settings events).controller.next_number ≤ number)
    ⊎ HasNotAsked (world settings events) number
    → IsUnknownToSwitch (world settings events) number

abbrev pub DroppedAreUnknown : Parameters → List Event → Event → Type 0
DroppedAreUnknown settings events event =
    (number : ℕ) → AreAllowed settings → TookOctets settings events
    → TakesOctets (world settings events) event → 1 ≤ number
    → HasNotAsked (world settings events) number
    → (IsThere (connection_of (actors_after (world settings events) event).controller number) → ⊥)
    → IsUnknownForGood (actors_after (world settings events) event) number
