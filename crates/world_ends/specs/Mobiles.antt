-- SPDX-License-Identifier: MIT OR Apache-2.0
-- The effect of each call of the mobiles, in the terms of `world_model`, which defines the same
-- effect for the whole world.
use Rattle.std.specs.Prelude.{ℕ, ◌&&◌, Bool, true, false, if◌then◌else◌}
use Rattle.std.specs.Prelude.{List, set, slice_get, Option, Some, None}
use Rattle.std.specs.List.{position_or_len}
use Rattle.std.specs.Option.{is_none, option_and_then, option_map}
use Rattle.dtap_codec.specs.declared.sapi.Sapi.{Sapi}
use Rattle.dtap_codec.specs.declared.sapi.Sapi.TheVariants.{Zero, Three}
use Rattle.mobile_end.specs.Mobile.{after_acked, after_arrival, after_leave, after_queue}
use Rattle.mobile_end.specs.Mobile.{frame_answer, is_acknowledged, refusal_of_send}
use Rattle.world_model.specs.declared.seat.Command.{Command}
use Rattle.world_model.specs.declared.seat.Seat.{Seat}
use Rattle.world_model.specs.declared.seat.Seat.TheVariants.{On, Moving}
use Rattle.world_model.specs.declared.seat.Tenure.{Tenure}
use Rattle.world_model.specs.Mobiles.{frame_in, framed, may_send}
use Rattle.world_model.specs.World.{Mobile, has_number}
use Rattle.world_ends.specs.MobilesState.{MobilesState}

-- ---- one mobile

-- the mobile after its upper layers send a message; None if they can't send it
abbrev pub sending : Sapi → List ℕ → Mobile → Option Mobile
sending sapi message p =
    if may_send p.seat && is_none (refusal_of_send p.end sapi message)
    then Some (record p { end = after_queue p.end sapi message })
    else None

-- the frame that the mobile has in the air and the station can take, if any
abbrev pub frame_of : Sapi → Mobile → Option (List ℕ)
frame_of sapi p = frame_in (frame_answer p.end sapi)

-- the mobile after the station took a frame; after a frame on SAPI 0, the next frame is no initial
-- message
abbrev pub taken_from : Sapi → Mobile → Mobile
taken_from Zero p = record (framed p Zero) { opens = false }
taken_from Three p = framed p Three

-- the mobile after a frame on SAPI 0 opened its connection; unchanged on SAPI 3
abbrev pub after_opening : Sapi → Mobile → Mobile
after_opening Zero p = record p { opens = false }
after_opening Three p = p

abbrev pub taking : Sapi → Mobile → Option Mobile
taking sapi p = option_map (λ frame. taken_from sapi p) (frame_of sapi p)

-- the mobile after the station acknowledges a frame; None if there is no frame to acknowledge
abbrev pub acknowledging : Sapi → Mobile → Option Mobile
acknowledging sapi p =
    if is_acknowledged p.end sapi then Some (record p { end = after_acked p.end sapi }) else None

-- the mobile after it leaves its channel, `from`, on this command
abbrev pub leaving : Tenure → Command → Mobile → Mobile
leaving from command p =
    record p { end = after_leave p.end; seat = Moving from command; opens = false }

abbrev pub is_moving : Seat → Bool
is_moving (Moving from command) = true
is_moving seat = false

-- the mobile after it comes to the channel of `tenure`, where it sends `control`, of radio resource
-- management, first
abbrev pub arriving : Tenure → List ℕ → Mobile → Mobile
arriving tenure control p = record p { end = after_arrival p.end control; seat = On tenure None }

-- the mobile after it is assigned the channel of `tenure`
abbrev pub assigned_to : Tenure → Mobile → Mobile
assigned_to tenure p = record p { seat = On tenure None }

-- ---- all mobiles

-- the place of the first mobile with a number; the place after the last mobile if no mobile has it
abbrev pub place_in : ℕ → List Mobile → ℕ
place_in number mobiles = position_or_len (has_number number) mobiles

abbrev pub mobile_in : ℕ → List Mobile → Option Mobile
mobile_in number mobiles = slice_get mobiles (place_in number mobiles)

abbrev pub with_mobile_in : ℕ → Mobile → MobilesState → MobilesState
with_mobile_in number p s = record s { mobiles = set s.mobiles (place_in number s.mobiles) p }

-- the mobiles after `happens` changes the mobile with a number; unchanged if no mobile has the
-- number
abbrev pub at_found : ℕ → (Mobile → Mobile) → MobilesState → Option Mobile → MobilesState
at_found number happens s None = s
at_found number happens s (Some p) = with_mobile_in number (happens p) s

abbrev pub at_mobile : ℕ → (Mobile → Mobile) → MobilesState → MobilesState
at_mobile number happens s = at_found number happens s (mobile_in number s.mobiles)

-- the mobiles after `happens` changes the mobile with a number; None if no mobile has the number,
-- or if `happens` gives None
abbrev pub by_mobile : ℕ → (Mobile → Option Mobile) → MobilesState → Option MobilesState
by_mobile number happens s =
    option_map (λ p. with_mobile_in number p s)
    (option_and_then happens (mobile_in number s.mobiles))
