-- SPDX-License-Identifier: MIT OR Apache-2.0
-- The end of each mobile in the world has the state that its calls give.
use Rattle.std.specs.Prelude.{◌≡◌, ℕ, List, Some}
use Rattle.mobile_end.specs.declared.mobile_end.Place.{Place}
use Rattle.mobile_end.specs.declared.mobile_end.Place.TheVariants as places
use Rattle.mobile_end.specs.Calls.{Call, after_calls}
use Rattle.mobile_end.specs.Mobile.{new_mobile}
use Rattle.settings.specs.Parameters.{Parameters}
use Rattle.world_model.specs.declared.event.Event.{Event}
use Rattle.world_model.specs.declared.seat.Seat.{Seat}
use Rattle.world_model.specs.declared.seat.Seat.TheVariants.{Moving}
use Rattle.world_model.specs.Calls.{all_calls}
use Rattle.world_model.specs.Life.{actors_after_all}
use Rattle.world_model.specs.World.{Mobile, mobile_of, modulus_in, new_actors}

-- the place of the mobile's end: between two channels while the mobile moves
abbrev pub place_in : Seat → Place
place_in (Moving from command) = places.Moving
place_in seat = places.OnChannel

-- the mobile's end is that of a new mobile with the modulus `m` after these calls
pub record HasMadeCalls (m : ℕ) (calls : List Call) (p : Mobile) : Type 0 where
  pub is : p.end ≡ after_calls (new_mobile m) calls
  pub place : p.end.place ≡ place_in p.seat

-- the end of each mobile is that of a new mobile after all calls of the events, in order
abbrev pub MobilesLive : Parameters → List Event → Type 0
MobilesLive settings events =
    (number : ℕ) (p : Mobile) → mobile_of (actors_after_all (new_actors settings) events) number
    ≡ Some p
    → HasMadeCalls (modulus_in settings) (all_calls (new_actors settings) events number) p
