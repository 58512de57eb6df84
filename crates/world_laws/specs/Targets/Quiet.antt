-- SPDX-License-Identifier: MIT OR Apache-2.0
-- Channels that the controller has as free are quiet: no message is on its way up from them, and no
-- command is on its way down.
use Rattle.std.specs.Prelude.{◌≡◌, ◌⊎◌, ℕ, ◌≤◌, Bool, true, false, List, []}
use Rattle.std.specs.Prelude.{◌∷◌, length}
use Rattle.std.specs.List.{list_any}
use Rattle.world_laws.specs.Prelude.{Place, Free, channel_state, hears, AreAllowed, Parameters}
use Rattle.world_laws.specs.Prelude.{Event, OutboxEntry}
use Rattle.world_laws.specs.Prelude.{rsl_in, Actors, is_active_at, outbox_of, spot_at}
use Rattle.world_laws.specs.Runs.{world}
use Rattle.world_laws.specs.LineUp.Places.{messages_in}
use Rattle.world_model.specs.Pipe.{is_active_then}
use Rattle.world_laws.specs.Acknowledged.{acknowledgements_up, is_release_ack}
use Rattle.world_laws.specs.ComingUp.{coming_up}
use Rattle.world_laws.specs.GoingDown.{going_down, leading_from_outbox}
use Rattle.world_laws.specs.AccountedFor.{initials_up}
use Rattle.world_laws.specs.OthersFrame.{TookOctets}

-- Nothing is on its way on the channel: neither a message up, an initial message included, nor a
-- command down.
pub record IsQuiet (w : Actors) (at : Place) : Type 0 where
  pub nothing_arrives : messages_in (coming_up w at) ≡ []
  pub none_opens : initials_up w at ≡ []
  pub none_commanded : going_down w at ≡ []

-- Whatever happened, a channel that the controller has as free is quiet, as long as the controller
-- hears the channel's station. Assumes: allowed settings; the controller took only octets.
abbrev pub FreeChannelsAreQuiet : Parameters → List Event → Type 0
FreeChannelsAreQuiet settings events =
    (at : Place) → AreAllowed settings → TookOctets settings events → 1 ≤ at.station
    → at.station ≤ length settings.cells
    → channel_state (world settings events).controller at ≡ Free
    → hears (world settings events).controller at.station ≡ true
    → IsQuiet (world settings events) at

-- ---- why free channels are quiet

-- Each command for the channel that waits for the station is to be taken while the channel is
-- active.
abbrev pub AreOnActive : ℕ → Bool → List OutboxEntry → Type 0
AreOnActive channel active [] = Unit {0}
AreOnActive channel active (entry ∷ entries) =
    (active ≡ false → leading_from_outbox channel entry ≡ [])
    × AreOnActive channel (is_active_then channel active (rsl_in entry.out.frame)) entries

-- Whether the channel's RF CHANNEL RELEASE ACK is on its way up.
abbrev pub is_ending : Actors → Place → Bool
is_ending w at = list_any is_release_ack (acknowledgements_up w at)

-- A channel is settled: its commands are to be taken while it is active, and nothing is in its air
-- while it isn't active. While the controller hears the station, the channel isn't active if it is
-- free or its RF CHANNEL RELEASE ACK is on its way, and nothing is on its way up if it is free.
pub record IsSettled (w : Actors) (at : Place) : Type 0 where
  pub line : AreOnActive at.number (is_active_at w at) (outbox_of w at.station)
  pub air : is_active_at w at ≡ false → (spot_at w at).air ≡ []
  pub idle : hears w.controller at.station ≡ true
      → (channel_state w.controller at ≡ Free) ⊎ (is_ending w at ≡ true) → is_active_at w at ≡ false
  pub silent : hears w.controller at.station ≡ true → channel_state w.controller at ≡ Free
      → coming_up w at ≡ []

-- Whatever happened, each channel of each station of the settings is settled.
abbrev pub ChannelsAreSettled : Parameters → List Event → Type 0
ChannelsAreSettled settings events =
    (at : Place) → AreAllowed settings → TookOctets settings events → 1 ≤ at.station
    → at.station ≤ length settings.cells → IsSettled (world settings events) at
