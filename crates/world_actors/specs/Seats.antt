-- SPDX-License-Identifier: MIT OR Apache-2.0
-- The channel that a mobile is on, or is changing from, if the mobile can act there.
use Rattle.std.specs.Prelude.{ℕ, ◌&&◌, nat_lt, Bool, true, false, if◌then◌else◌, Option}
use Rattle.std.specs.Prelude.{Some, None}
use Rattle.std.specs.Option.{is_none, option_and_then}
use Rattle.world_ends.specs.Mobiles.{mobile_in}
use Rattle.world_model.specs.World.{Actors, Mobile, is_reached}
use Rattle.world_actors.specs.declared.departure.Departure.{Departure}
use Rattle.world_model.specs.declared.seat.Seat.{Seat}
use Rattle.world_model.specs.declared.seat.Seat.TheVariants.{Asking, On, Moving}
use Rattle.world_model.specs.declared.seat.Tenure.{Tenure}

abbrev pub reached_from : Actors → Seat → Option Tenure
reached_from w (On tenure command) = if is_reached w tenure then Some tenure else None
reached_from w seat = None

-- the tenure that a mobile is on, if this is the present tenure of its channel and the station is
-- up
abbrev pub reached_by : Actors → ℕ → Option Tenure
reached_by w number = option_and_then (λ p. reached_from w p.seat) (mobile_in number w.mobiles)

-- ---- the tenure that a mobile left, or may leave, and its command

-- the departure to which a mobile on this seat is commanded, if the mobile is reached on its
-- channel
abbrev pub commanded_from : Actors → Seat → Option Departure
commanded_from w (On tenure (Some command)) =
    if is_reached w tenure
    then Some (record { from = tenure; command = command })
    else None
commanded_from w seat = None

-- the departure of a mobile on this seat, if it has left its channel and is between two channels
abbrev pub moving_from : Seat → Option Departure
moving_from (Moving from command) = Some (record { from = from; command = command })
moving_from seat = None

-- the departure that `reads` finds from the seat of the mobile with this number
abbrev pub of_seat : (Seat → Option Departure) → Actors → ℕ → Option Departure
of_seat reads w number = option_and_then (λ p. reads p.seat) (mobile_in number w.mobiles)

-- ---- whether a number is that of a new mobile, and whether a mobile's next frame on SAPI 0 is its
-- ---- initial message

abbrev pub is_new_by : Actors → ℕ → Bool
is_new_by w number = nat_lt 0 number && is_none (mobile_in number w.mobiles)

abbrev pub opens_in : Option Mobile → Bool
opens_in None = false
opens_in (Some p) = p.opens

abbrev pub opens_by : Actors → ℕ → Bool
opens_by w number = opens_in (mobile_in number w.mobiles)

-- ---- whether the mobile with a number is asking for a channel

abbrev pub is_asking : Seat → Bool
is_asking Asking = true
is_asking seat = false

abbrev pub is_asking_in : Option Mobile → Bool
is_asking_in None = false
is_asking_in (Some p) = is_asking p.seat

abbrev pub is_asking_by : Actors → ℕ → Bool
is_asking_by w number = is_asking_in (mobile_in number w.mobiles)
