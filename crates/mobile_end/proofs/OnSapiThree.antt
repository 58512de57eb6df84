-- SPDX-License-Identifier: MIT OR Apache-2.0
-- The link of SAPI 3 has no message of the flow.
use Rattle.std.proofs.Common.{◌≡◌, ℕ, false, Option, Some, None, List, [], ◌∷◌, ◌++◌, refl, filter, option_to_list, if◌then◌else◌}
use Rattle.std.specs.List.{AllByRecursion}
use Rattle.std.proofs.lemmas.Bool.{cond_both}
use Rattle.dtap_codec.specs.Message.{is_flow_message}
use Rattle.dtap_codec.specs.declared.sapi.Sapi.{Sapi}
use Rattle.dtap_codec.specs.declared.sapi.Sapi.TheVariants.{Zero, Three}
use Rattle.link_model.specs.AirLink.{after_ack, message_in}
use Rattle.link_model.specs.declared.air_link.Air.{Air}
use Rattle.link_model.specs.declared.air_link.Air.TheVariants.{Empty, Given, Reached}
use Rattle.mobile_end.specs.declared.mobile_end.Place.{Place}
use Rattle.mobile_end.specs.declared.mobile_end.Place.TheVariants.{OnChannel, Moving}
use Rattle.mobile_end.specs.declared.mobile_end.Stage.{Stage}
use Rattle.mobile_end.specs.declared.mobile_end.Stage.TheVariants.{New, Connected}
use Rattle.mobile_end.specs.Calls.{Call, after_call, frame_lent, may_arrive, taken_on_three_by_call, taken_on_three_by_calls, unless_refused}
use Rattle.mobile_end.specs.Calls.Call.{connects, sends, frames, acknowledges, leaves, arrives, gives_up}
use Rattle.mobile_end.specs.DataLink.{after_lending, air_after_repeat, lent_message, outstanding_messages, waits}
use Rattle.mobile_end.specs.DataLinkState.{DataLinkState}
use Rattle.mobile_end.specs.Lawful.{is_initial, is_sendable}
use Rattle.mobile_end.specs.Mobile.{after_acked_at, after_arrival, after_connect, after_frame_at, after_number, after_queue, frame_answer_at, link_of, refusal_before_connect, refusal_of_connect, with_link}
use Rattle.mobile_end.specs.MobileState.{MobileState}
use Rattle.mobile_end.proofs.Lives.{unless_connected_by, unless_refused_by}

-- none of these messages is of the flow
abbrev NoFlow : List (List ℕ) → Type 0
NoFlow messages = AllByRecursion (λ message. is_flow_message message ≡ false) messages

abbrev HasNoFlow : MobileState → Type 0
HasNoFlow mobile = NoFlow (outstanding_messages mobile.three)

both : (xs ys : List (List ℕ)) → NoFlow xs → NoFlow ys → NoFlow (xs ++ ys)
both [] ys first second = second
both (x ∷ xs) ys first second = (first.0, both xs ys first.1 second)

filtered : (xs : List (List ℕ)) → NoFlow xs → filter is_flow_message xs ≡ []
filtered [] none = refl
filtered (x ∷ xs) none = rw none.0 (filtered xs none.1)

-- ---- the link

behind : (waiting : List (List ℕ)) (air : Air) (message : List ℕ) →
    is_flow_message message ≡ false →
    NoFlow (option_to_list (message_in air) ++ waiting) →
    NoFlow (option_to_list (message_in air) ++ (waiting ++ message ∷ []))
behind waiting Empty message apart none = both waiting (message ∷ []) none (apart, tt)
behind waiting (Given first) message apart none = (none.0, both waiting (message ∷ []) none.1 (apart, tt))
behind waiting (Reached first) message apart none = (none.0, both waiting (message ∷ []) none.1 (apart, tt))

lending : (waiting : List (List ℕ)) (air : Air) → let link : DataLinkState = record { waiting = waiting; air = air } in NoFlow (outstanding_messages link) → NoFlow (outstanding_messages (after_lending link))
lending [] Empty none = none
lending (first ∷ others) Empty none = none
lending waiting (Given message) none = none
lending waiting (Reached message) none = none

lent : (waiting : List (List ℕ)) (air : Air) → let link : DataLinkState = record { waiting = waiting; air = air } in NoFlow (outstanding_messages link) → NoFlow (option_to_list (lent_message link))
lent [] Empty none = tt
lent (first ∷ others) Empty none = (none.0, tt)
lent waiting (Given message) none = (none.0, tt)
lent waiting (Reached message) none = tt

freed : (waiting : List (List ℕ)) (air : Air) →
    NoFlow (option_to_list (message_in air) ++ waiting) →
    NoFlow (option_to_list (message_in (after_ack air)) ++ waiting)
freed waiting Empty none = none
freed waiting (Given message) none = none
freed waiting (Reached message) none = none.1

repeated : (waiting : List (List ℕ)) (air : Air) →
    NoFlow (option_to_list (message_in air) ++ waiting) →
    NoFlow (option_to_list (message_in (air_after_repeat air)) ++ waiting)
repeated waiting Empty none = none
repeated waiting (Given message) none = none
repeated waiting (Reached message) none = none

-- ---- the calls

queued : (mobile : MobileState) (sapi : Sapi) (message : List ℕ) → HasNoFlow mobile → HasNoFlow (after_queue mobile sapi message)
queued mobile sapi message none =
    cond_both (is_flow_message message) (after_number mobile message) (with_link mobile sapi (waits (link_of mobile sapi) message)) HasNoFlow (λ _. none) (λ apart. waiting sapi apart)
  where
    waiting : (sapi : Sapi) → is_flow_message message ≡ false → HasNoFlow (with_link mobile sapi (waits (link_of mobile sapi) message))
    waiting Zero apart = none
    waiting Three apart = behind mobile.three.waiting mobile.three.air message apart none

connected : (mobile : MobileState) (initial : Option (List ℕ)) →
    HasNoFlow mobile →
    HasNoFlow (unless_refused (refusal_of_connect initial) mobile (after_connect mobile initial))
connected mobile None none = none
connected mobile (Some initial) none =
    unless_refused_by HasNoFlow (is_initial initial) None mobile (after_connect mobile (Some initial)) none (λ _. queued mobile Zero initial none)

framed : (stage : Stage) (place : Place) (mobile : MobileState) (sapi : Sapi) →
    HasNoFlow mobile →
    HasNoFlow (after_frame_at stage place mobile sapi)
framed New place mobile sapi none = none
framed Connected Moving mobile sapi none = none
framed Connected OnChannel mobile Zero none = none
framed Connected OnChannel mobile Three none = lending mobile.three.waiting mobile.three.air none

was_acknowledged : (place : Place) (mobile : MobileState) (sapi : Sapi) → HasNoFlow mobile → HasNoFlow (after_acked_at place mobile sapi)
was_acknowledged Moving mobile sapi none = none
was_acknowledged OnChannel mobile Zero none = none
was_acknowledged OnChannel mobile Three none = freed mobile.three.waiting mobile.three.air none

arrived : (mobile : MobileState) (control : List ℕ) →
    HasNoFlow mobile →
    HasNoFlow (if may_arrive mobile control then after_arrival mobile control else mobile)
arrived mobile control none =
    cond_both (may_arrive mobile control) (after_arrival mobile control) mobile HasNoFlow (λ _. repeated mobile.three.waiting mobile.three.air none) (λ _. none)

keeps : (mobile : MobileState) (call : Call) → HasNoFlow mobile → HasNoFlow (after_call mobile call)
keeps mobile (connects initial) none = unless_connected_by HasNoFlow mobile.stage mobile _ none (connected mobile initial none)
keeps mobile (sends sapi message) none =
    unless_refused_by HasNoFlow (is_sendable sapi message) (refusal_before_connect mobile.stage) mobile (after_queue mobile sapi message) none (λ _. queued mobile sapi message none)
keeps mobile (frames sapi) none = framed mobile.stage mobile.place mobile sapi none
keeps mobile (acknowledges sapi) none = was_acknowledged mobile.place mobile sapi none
keeps mobile leaves none = none
keeps mobile (arrives complete) none = arrived mobile complete none
keeps mobile (gives_up failure) none = arrived mobile failure none

lent_at : (stage : Stage) (place : Place) (mobile : MobileState) →
    HasNoFlow mobile →
    NoFlow (frame_lent (frame_answer_at stage place (lent_message mobile.three)))
lent_at New place mobile none = tt
lent_at Connected Moving mobile none = tt
lent_at Connected OnChannel mobile none = lent mobile.three.waiting mobile.three.air none

takes : (mobile : MobileState) (call : Call) → HasNoFlow mobile → NoFlow (taken_on_three_by_call mobile call)
takes mobile (frames Three) none = lent_at mobile.stage mobile.place mobile none
takes mobile (frames Zero) none = tt
takes mobile (connects initial) none = tt
takes mobile (sends sapi message) none = tt
takes mobile (acknowledges sapi) none = tt
takes mobile leaves none = tt
takes mobile (arrives complete) none = tt
takes mobile (gives_up failure) none = tt

takes_all : (mobile : MobileState) (calls : List Call) → HasNoFlow mobile → NoFlow (taken_on_three_by_calls mobile calls)
takes_all mobile [] none = tt
takes_all mobile (call ∷ calls) none =
    both (taken_on_three_by_call mobile call) (taken_on_three_by_calls (after_call mobile call) calls) (takes mobile call none) (takes_all (after_call mobile call) calls (keeps mobile call none))

pub takes_no_flow : (mobile : MobileState) (calls : List Call) →
    NoFlow (outstanding_messages mobile.three) →
    filter is_flow_message (taken_on_three_by_calls mobile calls) ≡ []
takes_no_flow mobile calls none = filtered (taken_on_three_by_calls mobile calls) (takes_all mobile calls none)
