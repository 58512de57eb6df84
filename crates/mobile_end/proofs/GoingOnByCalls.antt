-- SPDX-License-Identifier: MIT OR Apache-2.0
-- Over any list of calls, a mobile's link continues where the messages that stations took ended.
use Rattle.std.proofs.Common.{◌≡◌, ℕ, true, false, Option, Some, None, List, [], ◌∷◌, ◌++◌, refl, sym, ap, ◌∙◌, subst, append_assoc, filter, option_to_list, if◌then◌else◌}
use Rattle.std.specs.Cmp.{second_so}
use Rattle.std.proofs.lemmas.Bool.{cond_both}
use Rattle.std.proofs.lemmas.List.{append-nil}
use Rattle.std.proofs.lemmas.List.Elements.{filter-append}
use Rattle.dtap_codec.specs.Message.{is_flow_message}
use Rattle.dtap_codec.specs.declared.sapi.Sapi.{Sapi}
use Rattle.dtap_codec.specs.declared.sapi.Sapi.TheVariants.{Zero, Three}
use Rattle.link_model.specs.declared.air_link.Air.{Air}
use Rattle.link_model.specs.declared.air_link.Air.TheVariants.{Empty, Given, Reached}
use Rattle.mobile_end.specs.declared.mobile_end.Place.{Place}
use Rattle.mobile_end.specs.declared.mobile_end.Place.TheVariants.{OnChannel, Moving}
use Rattle.mobile_end.specs.declared.mobile_end.Stage.{Stage}
use Rattle.mobile_end.specs.declared.mobile_end.Stage.TheVariants.{New, Connected}
use Rattle.mobile_end.specs.Calls.{Call, after_call, after_calls, taken_by_call, taken_by_calls, unless_refused, may_arrive, frame_lent}
use Rattle.mobile_end.specs.Calls.Call.{connects, sends, frames, acknowledges, leaves, arrives, gives_up}
use Rattle.mobile_end.specs.Control.{is_control}
use Rattle.mobile_end.specs.DataLinkState.{DataLinkState}
use Rattle.dtap_codec.specs.Places.{Rise}
use Rattle.dtap_codec.proofs.Rising.{Rise-front, Rise-of_flow}
use Rattle.mobile_end.specs.DataLink.{to_be_taken, waits, lent_message, after_lending}
use Rattle.mobile_end.specs.RunsToEnd.{RunsToEnd}
use Rattle.mobile_end.specs.Lawful.{has_clear_number, is_initial, is_sendable}
use Rattle.mobile_end.specs.Mobile.{new_mobile, after_queue, after_number, with_link, link_of, after_connect, refusal_of_connect, refusal_before_connect, frame_answer_at, after_frame_at, after_acked_at, after_arrival}
use Rattle.mobile_end.specs.MobileState.{MobileState}
use Rattle.mobile_end.proofs.GoingOn.{RunsToEnd-new, RunsToEnd-lent, RunsToEnd-acknowledged, RunsToEnd-resumed, RunsToEnd-numbered, RunsToEnd-unnumbered}
use Rattle.mobile_end.proofs.Lives.{is_sendable_clear, is_initial_clear, unless_refused_by, unless_connected_by, IsKept-calls}
use Rattle.mobile_end.proofs.Numbering.{IsClear-flow}

-- the link of SAPI 0 continues behind these messages
abbrev LinkRuns : MobileState → List (List ℕ) → Type 0
LinkRuns mobile messages = RunsToEnd mobile.modulus mobile.sent messages mobile.zero

-- a call that takes nothing
nothing_more : (mobile : MobileState) (xs : List (List ℕ)) → LinkRuns mobile xs → LinkRuns mobile (xs ++ [])
nothing_more mobile xs going = subst (λ (list : List (List ℕ)). LinkRuns mobile list) (sym (append-nil xs)) going

queued : (mobile : MobileState) (xs : List (List ℕ)) (sapi : Sapi) (message : List ℕ) →
    has_clear_number message ≡ true →
    LinkRuns mobile xs →
    LinkRuns (after_queue mobile sapi message) xs
queued mobile xs sapi message clear going =
    cond_both (is_flow_message message) (after_number mobile message) (with_link mobile sapi (waits (link_of mobile sapi) message))
    (λ (new : MobileState). LinkRuns new xs) (λ flow. RunsToEnd-numbered mobile.zero message (IsClear-flow message clear flow) going) (λ apart. waiting sapi apart)
  where
    waiting : (sapi : Sapi) → is_flow_message message ≡ false → LinkRuns (with_link mobile sapi (waits (link_of mobile sapi) message)) xs
    waiting Zero apart = RunsToEnd-unnumbered mobile.zero message apart going
    waiting Three apart = going

connected : (mobile : MobileState) (xs : List (List ℕ)) (initial : Option (List ℕ)) →
    LinkRuns mobile xs →
    LinkRuns (unless_refused (refusal_of_connect initial) mobile (after_connect mobile initial)) xs
connected mobile xs None going = going
connected mobile xs (Some initial) going =
    unless_refused_by (λ (new : MobileState). LinkRuns new xs) (is_initial initial) None mobile (after_connect mobile (Some initial)) going
    (λ lawful. queued mobile xs Zero initial (is_initial_clear initial lawful) going)

lent_by : (m : ℕ) (sent xs : List (List ℕ)) (link : DataLinkState) (lent : Option (List ℕ)) →
    lent_message link ≡ lent →
    (lent ≡ None → after_lending link ≡ link) →
    RunsToEnd m sent xs link →
    RunsToEnd m sent (xs ++ filter is_flow_message (option_to_list lent)) (after_lending link)
lent_by m sent xs link None is same going =
    subst (λ (new : DataLinkState). RunsToEnd m sent (xs ++ []) new) (sym (same refl)) (subst (λ (list : List (List ℕ)). RunsToEnd m sent list link) (sym (append-nil xs)) going)
lent_by m sent xs link (Some x) is same going = RunsToEnd-lent link x is going

-- where nothing is lent the link is unchanged
unlent : (waiting : List (List ℕ)) (air : Air) → let link : DataLinkState = record { waiting = waiting; air = air } in lent_message link ≡ None → after_lending link ≡ link
unlent [] Empty none = refl
unlent (first ∷ others) Empty none = absurd cc
unlent waiting (Given message) none = absurd cc
unlent waiting (Reached message) none = refl

framed : (stage : Stage) (place : Place) (mobile : MobileState) (xs : List (List ℕ)) →
    LinkRuns mobile xs →
    LinkRuns (after_frame_at stage place mobile Zero) (xs ++ filter is_flow_message (frame_lent (frame_answer_at stage place (lent_message mobile.zero))))
framed New place mobile xs going = nothing_more mobile xs going
framed Connected Moving mobile xs going = nothing_more mobile xs going
framed Connected OnChannel mobile xs going = lent_by mobile.modulus mobile.sent xs mobile.zero (lent_message mobile.zero) refl (unlent mobile.zero.waiting mobile.zero.air) going

framed_three : (stage : Stage) (place : Place) (mobile : MobileState) (xs : List (List ℕ)) →
    LinkRuns mobile xs →
    LinkRuns (after_frame_at stage place mobile Three) xs
framed_three New place mobile xs going = going
framed_three Connected Moving mobile xs going = going
framed_three Connected OnChannel mobile xs going = going

was_acknowledged : (place : Place) (mobile : MobileState) (sapi : Sapi) (xs : List (List ℕ)) →
    LinkRuns mobile xs →
    LinkRuns (after_acked_at place mobile sapi) xs
was_acknowledged Moving mobile sapi xs going = going
was_acknowledged OnChannel mobile Zero xs going = RunsToEnd-acknowledged mobile.zero going
was_acknowledged OnChannel mobile Three xs going = going

arrived : (mobile : MobileState) (control : List ℕ) (xs : List (List ℕ)) →
    LinkRuns mobile xs →
    LinkRuns (if may_arrive mobile control then after_arrival mobile control else mobile) xs
arrived mobile control xs going =
    cond_both (may_arrive mobile control) (after_arrival mobile control) mobile (λ (new : MobileState). LinkRuns new xs)
    (λ may. RunsToEnd-resumed mobile.zero control (second_so _ (is_control control) may) going) (λ _. going)

-- each call
by_call : (mobile : MobileState) (xs : List (List ℕ)) (call : Call) →
    LinkRuns mobile xs →
    LinkRuns (after_call mobile call) (xs ++ filter is_flow_message (taken_by_call mobile call))
by_call mobile xs (connects initial) going = nothing_more (after_call mobile (connects initial)) xs (unless_connected_by (λ (new : MobileState). LinkRuns new xs) mobile.stage mobile _ going (connected mobile xs initial going))
by_call mobile xs (sends sapi message) going =
    nothing_more (after_call mobile (sends sapi message)) xs (unless_refused_by (λ (new : MobileState). LinkRuns new xs) (is_sendable sapi message) (refusal_before_connect mobile.stage) mobile (after_queue mobile sapi message) going
    (λ lawful. queued mobile xs sapi message (is_sendable_clear sapi message lawful) going))
by_call mobile xs (frames Zero) going = framed mobile.stage mobile.place mobile xs going
by_call mobile xs (frames Three) going = nothing_more (after_call mobile (frames Three)) xs (framed_three mobile.stage mobile.place mobile xs going)
by_call mobile xs (acknowledges sapi) going = nothing_more (after_call mobile (acknowledges sapi)) xs (was_acknowledged mobile.place mobile sapi xs going)
by_call mobile xs leaves going = nothing_more (after_call mobile leaves) xs going
by_call mobile xs (arrives complete) going = nothing_more (after_call mobile (arrives complete)) xs (arrived mobile complete xs going)
by_call mobile xs (gives_up failure) going = nothing_more (after_call mobile (gives_up failure)) xs (arrived mobile failure xs going)

-- any list of calls
by_calls : (mobile : MobileState) (xs : List (List ℕ)) (calls : List Call) →
    LinkRuns mobile xs →
    LinkRuns (after_calls mobile calls) (xs ++ filter is_flow_message (taken_by_calls mobile calls))
by_calls mobile xs [] going = nothing_more mobile xs going
by_calls mobile xs (call ∷ calls) going =
    let one : List (List ℕ) = filter is_flow_message (taken_by_call mobile call) in
    let others : List (List ℕ) = taken_by_calls (after_call mobile call) calls in
    subst (λ (list : List (List ℕ)). LinkRuns (after_calls (after_call mobile call) calls) list)
    (append_assoc xs one (filter is_flow_message others) ∙ ap (λ (list : List (List ℕ)). xs ++ list) (sym (filter-append is_flow_message (taken_by_call mobile call) others)))
    (by_calls (after_call mobile call) (xs ++ one) calls (by_call mobile xs call going))

pub continues_by_calls : (m : ℕ) (calls : List Call) →
    RunsToEnd m (after_calls (new_mobile m) calls).sent (filter is_flow_message (taken_by_calls (new_mobile m) calls)) (after_calls (new_mobile m) calls).zero
continues_by_calls m calls =
    let mobile : MobileState = after_calls (new_mobile m) calls in
    subst (λ (n : ℕ). RunsToEnd n mobile.sent (filter is_flow_message (taken_by_calls (new_mobile m) calls)) mobile.zero) (IsKept-calls (new_mobile m) calls).modulus (by_calls (new_mobile m) [] calls (RunsToEnd-new m))

-- so the places of what stations took rise
pub rise_calls : (m : ℕ) (calls : List Call) →
    (k : ℕ) × Rise m (after_calls (new_mobile m) calls).sent 0 (taken_by_calls (new_mobile m) calls) k
rise_calls m calls =
    let taken : List (List ℕ) = taken_by_calls (new_mobile m) calls in
    let front = Rise-front (filter is_flow_message taken) (filter is_flow_message (to_be_taken (after_calls (new_mobile m) calls).zero)) (continues_by_calls m calls).now in
    (front.0, Rise-of_flow taken front.1)
