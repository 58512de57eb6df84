-- SPDX-License-Identifier: MIT OR Apache-2.0
-- The invariant of a mobile.
use Rattle.std.specs.Prelude.{◌≡◌}
use Rattle.mobile_end.specs.declared.mobile_end.Place.{Place}
use Rattle.mobile_end.specs.declared.mobile_end.Place.TheVariants as places
use Rattle.mobile_end.specs.MobileState.{MobileState}
use Rattle.world_model.specs.declared.seat.Seat.{Seat}
use Rattle.world_model.specs.declared.seat.Seat.TheVariants.{Moving}
use Rattle.world_model.specs.Sized.{HasSized}

-- the mobile's end is between two channels if the mobile is moving
abbrev pub IsPlaced : Seat → Place → Type 0
IsPlaced (Moving from command) place = place ≡ places.Moving
IsPlaced seat place = Unit {0}

-- the mobile's end is between two channels if the mobile is moving, and the messages of its data
-- links have 1 to 251 octets
pub record IsFit (seat : Seat) (end : MobileState) : Type 0 where
  pub placed : IsPlaced seat end.place
  pub sized : HasSized end
