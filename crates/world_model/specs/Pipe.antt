-- SPDX-License-Identifier: MIT OR Apache-2.0
-- The pipe of one channel: the station's acknowledgements for the channel come in the order of the
-- controller's messages that ask for them.
use Rattle.std.specs.Prelude.{◌≡◌, ℕ, ◌==◌, ◌&&◌, ◌||◌, ◌≤◌, not, Bool}
use Rattle.std.specs.Prelude.{true, false, if◌then◌else◌}
use Rattle.std.specs.Prelude.{List, [], ◌∷◌, ◌++◌, filter, length, Option, Some}
use Rattle.link_model.specs.Message.{activation_ack}
use Rattle.link_model.specs.Base.{is_active}
use Rattle.link_model.specs.Tenures.{is_bound_of}
use Rattle.octets.specs.Lists.{IsPrefix}
use Rattle.rsl_codec.specs.declared.rsl.Rsl.{Rsl}
use Rattle.rsl_codec.specs.declared.rsl.Rsl.TheVariants.{ChannelActivation, RfChannelRelease}
use Rattle.rsl_codec.specs.declared.rsl.Rsl.TheVariants.{RfChannelReleaseAck}
use Rattle.settings.specs.Parameters.{Parameters}
use Rattle.world_model.specs.declared.event.Event.{Event}
use Rattle.world_model.specs.declared.line.OutboxEntry.{OutboxEntry}
use Rattle.world_model.specs.Honest.{all_given}
use Rattle.world_model.specs.Life.{actors_after_all}
use Rattle.world_model.specs.Queues.{all_put}
use Rattle.world_model.specs.Stations.{rsl_in}
use Rattle.world_model.specs.World.{Actors, new_actors, is_up, outbox_of, base_of}

-- those of the messages that are CHANNEL ACTIVATION ACKs or RF CHANNEL RELEASE ACKs of the channel
abbrev pub acknowledgements : ℕ → List Rsl → List Rsl
acknowledgements channel messages = filter (is_bound_of channel) messages

-- The acknowledgement that a message to the station asks for: one for an activation of the channel
-- if the channel isn't active, one for a release of the channel, and otherwise none.
abbrev pub acknowledgement : ℕ → Bool → Option Rsl → List Rsl
acknowledgement channel active (Some (ChannelActivation a)) =
    if (a.channel == channel) && not active then activation_ack channel ∷ [] else []
acknowledgement channel active (Some (RfChannelRelease number)) =
    if number == channel then RfChannelReleaseAck channel ∷ [] else []
acknowledgement channel active _ = []

abbrev pub is_active_then : ℕ → Bool → Option Rsl → Bool
is_active_then channel active (Some (ChannelActivation a)) = active || (a.channel == channel)
is_active_then channel active (Some (RfChannelRelease number)) = not (number == channel) && active
is_active_then channel active _ = active

-- the acknowledgements for the channel that these entries of the station's outbox ask for, in order
abbrev pub due : ℕ → Bool → List OutboxEntry → List Rsl
due channel active [] = []
due channel active (entry ∷ entries) =
    acknowledgement channel active (rsl_in entry.out.frame)
    ++ due channel (is_active_then channel active (rsl_in entry.out.frame)) entries

-- whether the channel is active after these entries
abbrev pub active_all : ℕ → Bool → List OutboxEntry → Bool
active_all channel active [] = active
active_all channel active (entry ∷ entries) =
    active_all channel (is_active_then channel active (rsl_in entry.out.frame)) entries

pub record IsPipe (station channel : ℕ) (begin : Actors) (events : List Event) : Type 0 where
  -- If the station's link is up, the acknowledgements due for all entries put are first those
  -- given, then those made and not given yet, then those due for the entries that wait in the
  -- outbox.
  pub flows : is_up (actors_after_all begin events) station ≡ true
      → due channel false (all_put station begin events) ≡
      acknowledgements channel (all_given station begin events)
      ++ (acknowledgements channel (base_of (actors_after_all begin events) station).messages
      ++ due channel (is_active (base_of (actors_after_all begin events) station).active channel)
      (outbox_of (actors_after_all begin events) station))
  -- the acknowledgements given are a prefix of those due for all entries put
  pub begins : IsPrefix (acknowledgements channel (all_given station begin events))
      (due channel false (all_put station begin events))

-- each channel of each station of the settings is a pipe
abbrev pub ArePipes : Parameters → List Event → Type 0
ArePipes settings events =
    (station channel : ℕ) → 1 ≤ station → station ≤ length settings.cells
    → IsPipe station channel (new_actors settings) events
