-- SPDX-License-Identifier: MIT OR Apache-2.0
-- The calls of a mobile, in any order, and the messages that stations take during these calls.
use Rattle.std.specs.Prelude.{ℕ, Bool, false, ◌&&◌, not, Option, Some, None, Result, Ok}
use Rattle.std.specs.Prelude.{Err, List, [], ◌∷◌, ◌++◌, option_to_list}
use Rattle.std.specs.Prelude.{if◌then◌else◌}
use Rattle.dtap_codec.specs.declared.sapi.Sapi.{Sapi}
use Rattle.dtap_codec.specs.declared.sapi.Sapi.TheVariants.{Zero, Three}
use Rattle.mobile_end.specs.declared.fault.MobileFault.{MobileFault}
use Rattle.mobile_end.specs.declared.mobile_end.Stage.{Stage}
use Rattle.mobile_end.specs.declared.mobile_end.Stage.TheVariants.{New, Connected}
use Rattle.mobile_end.specs.Control.{is_control}
use Rattle.mobile_end.specs.MobileState.{MobileState}
use Rattle.mobile_end.specs.Mobile.{after_connect, refusal_of_connect, after_queue}
use Rattle.mobile_end.specs.Mobile.{refusal_of_send, frame_answer, after_frame}
use Rattle.mobile_end.specs.Mobile.{after_acked, is_on_channel, after_leave, after_arrival}

-- a call of a mobile end
pub data Call : Type 0 where
  connects : Option (List ℕ) → Call
  sends : Sapi → List ℕ → Call
  frames : Sapi → Call
  acknowledges : Sapi → Call
  leaves : Call
  arrives : List ℕ → Call
  gives_up : List ℕ → Call

-- the state after a call that may be refused: a refused call changes nothing
abbrev pub unless_refused : Option MobileFault → MobileState → MobileState → MobileState
unless_refused (Some fault) old new = old
unless_refused None old new = new

-- the state after `connect`: if the mobile is connected already, nothing changes
abbrev pub unless_connected : Stage → MobileState → MobileState → MobileState
unless_connected Connected old new = old
unless_connected New old new = new

-- whether `arrive` or `give_up` may be called: the mobile is between two channels, and the message
-- is of radio resource management
abbrev pub may_arrive : MobileState → List ℕ → Bool
may_arrive mobile control = not (is_on_channel mobile.place) && is_control control

abbrev pub after_call : MobileState → Call → MobileState
after_call mobile (connects initial) =
    unless_connected mobile.stage mobile
    (unless_refused (refusal_of_connect initial) mobile (after_connect mobile initial))
after_call mobile (sends sapi message) =
    unless_refused (refusal_of_send mobile sapi message) mobile (after_queue mobile sapi message)
after_call mobile (frames sapi) = after_frame mobile sapi
after_call mobile (acknowledges sapi) = after_acked mobile sapi
after_call mobile leaves = after_leave mobile
after_call mobile (arrives complete) =
    if may_arrive mobile complete then after_arrival mobile complete else mobile
after_call mobile (gives_up failure) =
    if may_arrive mobile failure then after_arrival mobile failure else mobile

abbrev pub after_calls : MobileState → List Call → MobileState
after_calls mobile [] = mobile
after_calls mobile (call ∷ calls) = after_calls (after_call mobile call) calls

abbrev pub frame_lent : Result (Option (List ℕ)) MobileFault → List (List ℕ)
frame_lent (Ok frame) = option_to_list frame
frame_lent (Err fault) = []

-- the messages that a call lends to the station on SAPI 0
abbrev pub taken_by_call : MobileState → Call → List (List ℕ)
taken_by_call mobile (frames Zero) = frame_lent (frame_answer mobile Zero)
taken_by_call mobile _ = []

-- the messages that these calls lend to the station on SAPI 0, in order
abbrev pub taken_by_calls : MobileState → List Call → List (List ℕ)
taken_by_calls mobile [] = []
taken_by_calls mobile (call ∷ calls) =
    taken_by_call mobile call ++ taken_by_calls (after_call mobile call) calls

-- the messages that a call lends to the station on SAPI 3
abbrev pub taken_on_three_by_call : MobileState → Call → List (List ℕ)
taken_on_three_by_call mobile (frames Three) = frame_lent (frame_answer mobile Three)
taken_on_three_by_call mobile _ = []

-- the messages that these calls lend to the station on SAPI 3, in order
abbrev pub taken_on_three_by_calls : MobileState → List Call → List (List ℕ)
taken_on_three_by_calls mobile [] = []
taken_on_three_by_calls mobile (call ∷ calls) =
    taken_on_three_by_call mobile call ++ taken_on_three_by_calls (after_call mobile call) calls

-- whether a call begins an establishment, that is, the time during which layer 2 is up on a channel
abbrev pub begins : MobileState → Call → Bool
begins mobile (arrives complete) = may_arrive mobile complete
begins mobile (gives_up failure) = may_arrive mobile failure
begins mobile _ = false

-- The messages that stations take on SAPI 0 during these calls, one list for each establishment.
-- The first list begins with `so_far`: the messages that were taken in the first establishment
-- before these calls.
abbrev pub establishments : MobileState → List (List ℕ) → List Call → List (List (List ℕ))
establishments mobile so_far [] = so_far ∷ []
establishments mobile so_far (call ∷ calls) =
    if begins mobile call
    then so_far ∷ establishments (after_call mobile call) [] calls
    else establishments (after_call mobile call) (so_far ++ taken_by_call mobile call) calls
