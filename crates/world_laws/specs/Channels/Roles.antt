-- SPDX-License-Identifier: MIT OR Apache-2.0
-- Whatever events happened, what is on its way on the channels of an open connection agrees with
-- the roles of these channels.
use Rattle.std.specs.Prelude.{◌≡◌, ◌≤◌, true, false, List, [], ◌∷◌, length}
use Rattle.std.specs.List.{AllByRecursion}
use Rattle.world_laws.specs.Prelude.{Place, Connection, target_in, Free, channel_state, hears}
use Rattle.world_laws.specs.Prelude.{place_of, AreAllowed, Parameters, Event}
use Rattle.world_laws.specs.Prelude.{Actors}
use Rattle.world_laws.specs.Runs.{world}
use Rattle.world_laws.specs.Acknowledged.{acknowledgements_up}
use Rattle.world_laws.specs.ComingUp.{coming_up}
use Rattle.world_laws.specs.LineUps.{is_ended}
use Rattle.world_laws.specs.AccountedFor.{AcksAgree}
use Rattle.world_laws.specs.OthersFrame.{TookOctets, IsHad}
use Rattle.world_laws.specs.KeptLineUps.{EndLast}

-- The acknowledgements on their way agree with the roles of the channels of each open connection.
-- Assumes: allowed settings; the controller took only octets.
abbrev pub AcknowledgementsAgree : Parameters → List Event → Type 0
AcknowledgementsAgree settings events =
    (s : Connection) → AreAllowed settings → TookOctets settings events
    → IsHad (world settings events) s → AcksAgree (world settings events) s

-- Nothing is on its way up from the channel, neither an acknowledgement nor a layer 3 message of
-- SAPI 0.
pub record IsSilent (w : Actors) (at : Place) : Type 0 where
  pub acknowledged : acknowledgements_up w at ≡ []
  pub brings : coming_up w at ≡ []

-- A channel that the controller has as free is silent, unless the controller learned that the link
-- of the channel's station broke.
abbrev pub FreeAreSilent : Parameters → List Event → Type 0
FreeAreSilent settings events =
    (at : Place) → AreAllowed settings → TookOctets settings events → 1 ≤ at.station
    → at.station ≤ length settings.cells
    → hears (world settings events).controller at.station ≡ true
    → channel_state (world settings events).controller at ≡ Free
    → IsSilent (world settings events) at

-- ---- what is on its way up from the channels of an open connection

-- Nothing that is on its way up from an old channel follows the RF CHANNEL RELEASE ACK. No RF
-- CHANNEL RELEASE ACK is on its way from the serving channel or from a target.
pub record ChannelsEnd (w : Actors) (s : Connection) : Type 0 where
  pub old : EndLast w s
  pub others : AllByRecursion (λ c. is_ended (coming_up w (place_of c)) ≡ false)
      (s.serving ∷ target_in s.state)

abbrev pub OldChannelsEnd : Parameters → List Event → Type 0
OldChannelsEnd settings events =
    (s : Connection) → AreAllowed settings → TookOctets settings events
    → IsHad (world settings events) s → ChannelsEnd (world settings events) s
