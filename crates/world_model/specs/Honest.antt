-- SPDX-License-Identifier: MIT OR Apache-2.0 Stations are honest: the messages that a station makes
-- for a channel are in tenures of the channel.
use Rattle.std.specs.Prelude.{◌≢◌, ℕ, ◌==◌, Bool, false, if◌then◌else◌, List, []}
use Rattle.std.specs.Prelude.{◌∷◌, ◌++◌}
use Rattle.std.specs.Prelude.{option_to_list}
use Rattle.conn_messages.specs.declared.parameters.TheConstants.{SWITCH_LINK}
use Rattle.link_model.specs.Base.{first_message}
use Rattle.link_model.specs.Tenures.{Tenures}
use Rattle.rsl_codec.specs.declared.rsl.Rsl.{Rsl}
use Rattle.world_model.specs.declared.event.Event.{Event}
use Rattle.world_model.specs.declared.event.Event.TheVariants.{BasePush}
use Rattle.world_model.specs.Life.{actors_after, actors_after_all}
use Rattle.world_model.specs.World.{Actors, base_of}

-- the message that a station gives to the inbox at an event, if any
abbrev pub given : ℕ → Actors → Event → List Rsl
given station w (BasePush source) =
    if source == station then option_to_list (first_message (base_of w station)) else []
given station w _ = []

abbrev pub all_given : ℕ → Actors → List Event → List Rsl
all_given station w [] = []
all_given station w (event ∷ events) =
    given station w event ++ all_given station (actors_after w event) events

-- The messages that a station gave or made are in tenures, channel by channel: each ESTABLISH
-- INDICATION and DATA INDICATION of a channel stands between a CHANNEL ACTIVATION ACK of the
-- channel and the next RF CHANNEL RELEASE ACK of the channel.
abbrev pub IsHonest : ℕ → Actors → List Event → Type 0
IsHonest station begin events =
    (channel : ℕ) → (end : Bool) × Tenures channel false
    (all_given station begin events
    ++ (base_of (actors_after_all begin events) station).messages) end

abbrev pub AreHonest : Actors → List Event → Type 0
AreHonest begin events = (station : ℕ) → station ≢ SWITCH_LINK → IsHonest station begin events
