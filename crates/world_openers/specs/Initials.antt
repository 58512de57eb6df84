-- SPDX-License-Identifier: MIT OR Apache-2.0
-- The message with which a mobile connected.
use Rattle.std.specs.Prelude.{ℕ, ◌==◌, ◌&&◌, is_some, if◌then◌else◌}
use Rattle.std.specs.Prelude.{List, [], ◌∷◌, Option, Some, None}
use Rattle.std.specs.Option.{option_or}
use Rattle.world_model.specs.declared.event.Event.{Event}
use Rattle.world_model.specs.declared.event.Event.TheVariants.{Connect}
use Rattle.world_model.specs.Life.{actors_after}
use Rattle.world_model.specs.Mobiles.{after_connecting}
use Rattle.world_model.specs.World.{Actors}

-- the message with which the mobile with this number connects at this event; None if the mobile
-- doesn't connect
abbrev pub initial_at : Actors → Event → ℕ → Option (List ℕ)
initial_at w (Connect number station initial accepts) mobile =
    if (number == mobile) && is_some (after_connecting w number station initial accepts)
    then Some initial
    else None
initial_at w _ mobile = None

-- the message with which the mobile with this number first connects among these events; None if the
-- mobile doesn't connect
abbrev pub initial_of : Actors → List Event → ℕ → Option (List ℕ)
initial_of w [] mobile = None
initial_of w (event ∷ events) mobile =
    option_or (initial_at w event mobile) (initial_of (actors_after w event) events mobile)
