-- SPDX-License-Identifier: MIT OR Apache-2.0 The calls of a mobile's end in a run, and the messages
-- that stations take from the mobile, channel by channel.
use Rattle.std.specs.Prelude.{◌≡◌, ℕ, ◌==◌, ◌&&◌, Bool, false, if◌then◌else◌}
use Rattle.std.specs.Prelude.{is_some, List, []}
use Rattle.std.specs.Prelude.{◌∷◌, ◌++◌, Option, Some, None}
use Rattle.dtap_codec.specs.declared.sapi.Sapi.TheVariants.{Zero}
use Rattle.mobile_end.specs.Calls.{Call, frame_lent}
use Rattle.mobile_end.specs.Calls.Call.{connects, sends, frames, acknowledges, leaves, arrives}
use Rattle.mobile_end.specs.Calls.Call.{gives_up}
use Rattle.mobile_end.specs.Mobile.{frame_answer}
use Rattle.mobile_end.specs.OneRepeat.{OneRepeat}
use Rattle.settings.specs.Parameters.{Parameters}
use Rattle.world_model.specs.declared.event.Event.{Event}
use Rattle.world_model.specs.declared.event.Event.TheVariants.{Upper, Connect, AirUp, AirAck, Move}
use Rattle.world_model.specs.declared.event.Event.TheVariants.{Arrive, Return}
use Rattle.world_model.specs.declared.seat.Seat.{Seat}
use Rattle.world_model.specs.declared.seat.Seat.TheVariants.{Asking, Moving}
use Rattle.world_model.specs.Life.{actors_after, actors_after_all, event_after}
use Rattle.world_model.specs.Mobiles.{complete, failure}
use Rattle.world_model.specs.World.{Actors, Mobile, mobile_of, modulus_in, new_actors}

-- ---- the calls of a mobile's end

-- whether `mobile`, of whom the event is, has this number, and the event is taken
abbrev pub is_done_by : ℕ → Actors → ℕ → Event → Bool
is_done_by number w mobile event = (mobile == number) && is_some (event_after w event)

abbrev pub seat_of : Option Mobile → Seat
seat_of None = Asking
seat_of (Some p) = p.seat

-- the call with which a moving mobile arrives on the target of its command, with its COMPLETE
abbrev pub calls_to_arrive : Seat → List Call
calls_to_arrive (Moving from command) = arrives (complete command.change) ∷ []
calls_to_arrive seat = []

-- the call with which a moving mobile returns to the channel that it left, with its FAILURE
abbrev pub calls_to_return : Seat → List Call
calls_to_return (Moving from command) = gives_up (failure command.change) ∷ []
calls_to_return seat = []

-- the calls of the end of the mobile with this number at an event
abbrev pub calls_at : Actors → Event → ℕ → List Call
calls_at w (Connect mobile station initial accepts) number =
    if is_done_by number w mobile (Connect mobile station initial accepts)
    then connects (Some initial) ∷ [] else []
calls_at w (Upper mobile sapi message) number =
    if is_done_by number w mobile (Upper mobile sapi message) then sends sapi message ∷ [] else []
calls_at w (AirUp mobile sapi) number =
    if is_done_by number w mobile (AirUp mobile sapi) then frames sapi ∷ [] else []
calls_at w (AirAck mobile sapi) number =
    if is_done_by number w mobile (AirAck mobile sapi) then acknowledges sapi ∷ [] else []
calls_at w (Move mobile) number =
    if is_done_by number w mobile (Move mobile) then leaves ∷ [] else []
calls_at w (Arrive mobile) number =
    if is_done_by number w mobile (Arrive mobile)
    then calls_to_arrive (seat_of (mobile_of w mobile)) else []
calls_at w (Return mobile) number =
    if is_done_by number w mobile (Return mobile)
    then calls_to_return (seat_of (mobile_of w mobile)) else []
calls_at w _ number = []

abbrev pub all_calls : Actors → List Event → ℕ → List Call
all_calls w [] number = []
all_calls w (event ∷ events) number =
    calls_at w event number ++ all_calls (actors_after w event) events number

-- ---- the messages that stations take from a mobile

abbrev pub frame_of : Option Mobile → List (List ℕ)
frame_of None = []
frame_of (Some p) = frame_lent (frame_answer p.end Zero)

-- the frame of SAPI 0 that a station takes at an event from the mobile with this number
abbrev pub taken_at : Actors → Event → ℕ → List (List ℕ)
taken_at w (AirUp mobile Zero) number =
    if is_done_by number w mobile (AirUp mobile Zero) then frame_of (mobile_of w mobile) else []
taken_at w _ number = []

-- whether at this event the mobile with this number arrives on the channel to which it was
-- commanded, or returns to the channel that it left
abbrev pub arrives_at : Actors → Event → ℕ → Bool
arrives_at w (Arrive mobile) number = is_done_by number w mobile (Arrive mobile)
arrives_at w (Return mobile) number = is_done_by number w mobile (Return mobile)
arrives_at w _ number = false

-- The messages that stations take on SAPI 0 from the mobile with this number: a list for the
-- channel that it has at the beginning, and a list for each channel on which it arrives or to which
-- it returns. The first list begins with `so_far`.
abbrev pub taken_by_channel : Actors → ℕ → List (List ℕ) → List Event → List (List (List ℕ))
taken_by_channel w number so_far [] = so_far ∷ []
taken_by_channel w number so_far (event ∷ events) =
    if arrives_at w event number
    then so_far ∷ taken_by_channel (actors_after w event) number [] events
    else taken_by_channel (actors_after w event) number (so_far ++ taken_at w event number) events

-- ---- the one-repeat rule

-- Whatever happened, each mobile keeps the one-repeat rule: the messages of the flow that stations
-- took from it on one channel are a slice of those that its upper layers sent. Only the last
-- message of a slice can arrive again on the next channel.
abbrev pub MobilesRepeatAtMostOne : Parameters → List Event → Type 0
MobilesRepeatAtMostOne settings events =
    (number : ℕ) (p : Mobile) → mobile_of (actors_after_all (new_actors settings) events) number
    ≡ Some p
    → OneRepeat (modulus_in settings) p.end.sent 0
    (taken_by_channel (new_actors settings) number [] events)

-- ---- COMPLETE is first

-- the COMPLETE with which a moving mobile arrives on the target of its command
abbrev pub complete_of : Seat → Option (List ℕ)
complete_of (Moving from command) = Some (complete command.change)
complete_of seat = None

-- the FAILURE with which a moving mobile returns to the channel that it left
abbrev pub failure_of : Seat → Option (List ℕ)
failure_of (Moving from command) = Some (failure command.change)
failure_of seat = None

abbrev pub arrives_with : Actors → Event → Option (List ℕ)
arrives_with w (Arrive mobile) = complete_of (seat_of (mobile_of w mobile))
arrives_with w (Return mobile) = failure_of (seat_of (mobile_of w mobile))
arrives_with w _ = None

-- The COMPLETE or FAILURE with which the mobile with this number came to each of its channels, in
-- order. `present` is the message for the channel that it has at the beginning; None stands for the
-- mobile's first channel, to which it came without such a message.
abbrev pub comings : Actors → ℕ → Option (List ℕ) → List Event → List (Option (List ℕ))
comings w number present [] = present ∷ []
comings w number present (event ∷ events) =
    if arrives_at w event number
    then present ∷ comings (actors_after w event) number (arrives_with w event) events
    else comings (actors_after w event) number present events

-- the first message taken is `control`; nothing is claimed if `control` is None or no message was
-- taken
abbrev pub Begins : Option (List ℕ) → List (List ℕ) → Type 0
Begins (Some control) (first ∷ others) = first ≡ control
Begins _ _ = Unit {0}

abbrev pub EachBegins : List (Option (List ℕ)) → List (List (List ℕ)) → Type 0
EachBegins [] [] = Unit {0}
EachBegins (control ∷ controls) (taken ∷ others) = Begins control taken × EachBegins controls others
EachBegins _ _ = ⊥

-- Whatever happened, the first message that stations take on SAPI 0 from a mobile is its COMPLETE
-- on a channel to which it was commanded, and its FAILURE on a channel to which it returned.
abbrev pub CompleteIsFirst : Parameters → List Event → Type 0
CompleteIsFirst settings events =
    (number : ℕ) → EachBegins (comings (new_actors settings) number None events)
    (taken_by_channel (new_actors settings) number [] events)
