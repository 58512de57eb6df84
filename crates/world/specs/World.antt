-- SPDX-License-Identifier: MIT OR Apache-2.0
-- The effect of events on a world.
use Rattle.std.specs.Prelude.{ℕ, ◌+◌, ◌-◌, ◌^◌, min, Bool, false, Option, option_map}
use Rattle.std.specs.Prelude.{unwrap_or}
use Rattle.std.specs.Prelude.{is_some, List, [], ◌∷◌, ◌++◌, take, drop}
use Rattle.std.specs.Prelude.{if◌then◌else◌}
use Rattle.settings.specs.Parameters.{Parameters}
use Rattle.world_model.specs.declared.event.Event.{Event}
use Rattle.world_model.specs.declared.event.Event.TheVariants.{BaseDown}
use Rattle.world_model.specs.Life.{event_after}
use Rattle.world_model.specs.World.{new_actors}
use Rattle.world.specs.declared.world.Scene.{Scene}
use Rattle.world.specs.declared.world.Scene.TheVariants.{Fixed, Controlled}
use Rattle.world.specs.Fixed.{fixed_beginning, fixed_after}
use Rattle.world.specs.WorldState.{WorldState}

-- the fixed world before any event
abbrev pub fixed_world : ℕ → WorldState
fixed_world m = record { scene = Fixed (fixed_beginning m); not_taken = 0; failed = false }

-- the world of these settings before any event
abbrev pub controlled_world : Parameters → WorldState
controlled_world settings =
    record { scene = Controlled (new_actors settings); not_taken = 0; failed = false }

-- the actors after an event; None if the actor of the event can't take the event
abbrev pub scene_after : Scene → Event → Option Scene
scene_after (Fixed world) event = option_map Fixed (fixed_after world event)
scene_after (Controlled w) event = option_map Controlled (event_after w event)

abbrev pub is_taken : Scene → Event → Bool
is_taken scene event = is_some (scene_after scene event)

abbrev pub actors_after : Scene → Event → Scene
actors_after scene event = unwrap_or (scene_after scene event) scene

-- the world after an event; an event that isn't taken is counted, and changes nothing else
abbrev pub after : WorldState → Event → WorldState
after world event =
    record world {
      scene = actors_after world.scene event;
      not_taken = if is_taken world.scene event
          then world.not_taken
          else min (world.not_taken + 1) (2 ^ 64 - 1);
    }

-- the world after these events, one after the other
abbrev pub after_all : WorldState → List Event → WorldState
after_all world [] = world
after_all world (event ∷ events) = after_all (after world event) events

-- these events, with the break of a link inserted before the event at `place`, or at the end if no
-- event has this place
abbrev pub broken : List Event → ℕ → ℕ → List Event
broken events place source = take place events ++ BaseDown source ∷ drop place events
