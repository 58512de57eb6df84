-- SPDX-License-Identifier: MIT OR Apache-2.0
-- The one-repeat rule over any list of calls.
use Rattle.std.proofs.Common.{◌≡◌, ℕ, ◌+◌, Bool, true, false, Option, Some, None, List, [], ◌∷◌, ◌++◌, length, refl, sym, ap, ◌∙◌, subst, append_assoc, inl, inr, cond, option_to_list}
use Rattle.std.specs.Cmp.{second_so}
use Rattle.std.proofs.lemmas.Bool.{cases_Bool, cond-true, cond-false, cond_both}
use Rattle.std.proofs.lemmas.List.{append-nil}
use Rattle.octets.specs.Refusal.{first_refusal}
use Rattle.dtap_codec.specs.Message.{is_flow_message}
use Rattle.dtap_codec.specs.declared.sapi.Sapi.{Sapi}
use Rattle.dtap_codec.specs.declared.sapi.Sapi.TheVariants.{Zero, Three}
use Rattle.link_model.specs.AirLink.{after_ack}
use Rattle.link_model.specs.declared.air_link.Air.{Air}
use Rattle.link_model.specs.declared.air_link.Air.TheVariants.{Empty, Given, Reached}
use Rattle.mobile_end.specs.declared.fault.MobileFault.{MobileFault}
use Rattle.mobile_end.specs.declared.fault.MobileFault.TheVariants.{BadMessage}
use Rattle.mobile_end.specs.declared.mobile_end.Place.{Place}
use Rattle.mobile_end.specs.declared.mobile_end.Place.TheVariants.{OnChannel, Moving}
use Rattle.mobile_end.specs.declared.mobile_end.Stage.{Stage}
use Rattle.mobile_end.specs.declared.mobile_end.Stage.TheVariants.{New, Connected}
use Rattle.mobile_end.specs.Control.{is_control}
use Rattle.mobile_end.specs.DataLinkState.{DataLinkState}
use Rattle.mobile_end.specs.DataLink.{waits, lent_message, after_lending}
use Rattle.mobile_end.specs.Lawful.{has_clear_number, is_initial, is_sendable}
use Rattle.mobile_end.specs.MobileState.{MobileState}
use Rattle.mobile_end.specs.Mobile.{new_mobile, after_queue, after_number, with_link, link_of, after_connect, refusal_of_connect, refusal_before_connect, frame_answer_at, after_frame_at, after_acked_at, after_arrival}
use Rattle.mobile_end.specs.Calls.{Call, after_call, after_calls, taken_by_call, unless_refused, unless_connected, may_arrive, frame_lent, begins, establishments}
use Rattle.mobile_end.specs.Calls.Call.{connects, sends, frames, acknowledges, leaves, arrives, gives_up}
use Rattle.mobile_end.specs.OneRepeat.{OneRepeat}
use Rattle.mobile_end.specs.OneRepeat.OneRepeat.{over, carries_on, repeats}
use Rattle.mobile_end.proofs.Numbering.{IsNumbered-after_queue, IsNumbered-frame, IsNumbered-acked, IsNumbered-new}
use Rattle.mobile_end.proofs.Resuming.{IsLastTaken, IsGoing, IsCut, arrival_cut, arrival_going}
use Rattle.mobile_end.proofs.Slices.{is_slice_of_parts, is_slice_grow}

-- what may be sent has no number
pub is_sendable_clear : (sapi : Sapi) (message : List ℕ) → is_sendable sapi message ≡ true → has_clear_number message ≡ true
is_sendable_clear sapi [] lawful = refl
is_sendable_clear sapi (first ∷ rest) lawful = second_so _ (has_clear_number (first ∷ rest)) lawful

pub is_initial_clear : (message : List ℕ) → is_initial message ≡ true → has_clear_number message ≡ true
is_initial_clear [] lawful = refl
is_initial_clear (first ∷ rest) lawful = second_so _ (has_clear_number (first ∷ rest)) lawful

-- what holds behind a call that may be refused
pub unless_refused_by : (P : MobileState → Type 0) (lawful : Bool) (earlier : Option MobileFault) (old new : MobileState) →
    P old →
    (lawful ≡ true → P new) →
    P (unless_refused (first_refusal earlier (cond lawful None (Some BadMessage))) old new)
unless_refused_by P lawful (Some fault) old new kept made = kept
unless_refused_by P true None old new kept made = made refl
unless_refused_by P false None old new kept made = kept

pub unless_connected_by : (P : MobileState → Type 0) (stage : Stage) (old new : MobileState) →
    P old →
    P new →
    P (unless_connected stage old new)
unless_connected_by P New old new kept made = made
unless_connected_by P Connected old new kept made = kept

-- What calls keep: the modulus, and what was sent.
pub record IsKept (old new : MobileState) : Type 0 where
  pub modulus : new.modulus ≡ old.modulus
  pub more : List (List ℕ)
  pub sent : new.sent ≡ old.sent ++ more

is_kept_same : (old new : MobileState) → new.modulus ≡ old.modulus → new.sent ≡ old.sent → IsKept old new
is_kept_same old new modulus sent = record { modulus = modulus; more = []; sent = sent ∙ sym (append-nil old.sent) }

pub is_kept_then : {old mid new : MobileState} → IsKept old mid → IsKept mid new → IsKept old new
is_kept_then {old} {mid} {new} one two = record {
  modulus = two.modulus ∙ one.modulus;
  more = one.more ++ two.more;
  sent = two.sent ∙ ap (λ (xs : List (List ℕ)). xs ++ two.more) one.sent ∙ append_assoc old.sent one.more two.more;
}

is_kept_with_link : (mobile : MobileState) (sapi : Sapi) (link : DataLinkState) → IsKept mobile (with_link mobile sapi link)
is_kept_with_link mobile Zero link = is_kept_same mobile (with_link mobile Zero link) refl refl
is_kept_with_link mobile Three link = is_kept_same mobile (with_link mobile Three link) refl refl

is_kept_after_queue : (mobile : MobileState) (sapi : Sapi) (message : List ℕ) → IsKept mobile (after_queue mobile sapi message)
is_kept_after_queue mobile sapi message =
    cond_both (is_flow_message message) (after_number mobile message) (with_link mobile sapi (waits (link_of mobile sapi) message)) (IsKept mobile)
    (λ flow. record { modulus = refl; more = message ∷ []; sent = refl })
    (λ apart. is_kept_with_link mobile sapi (waits (link_of mobile sapi) message))

is_kept_connect : (mobile : MobileState) (initial : Option (List ℕ)) →
    IsKept mobile (unless_refused (refusal_of_connect initial) mobile (after_connect mobile initial))
is_kept_connect mobile None = is_kept_same mobile (after_connect mobile None) refl refl
is_kept_connect mobile (Some initial) =
    unless_refused_by (IsKept mobile) (is_initial initial) None mobile (after_connect mobile (Some initial)) (is_kept_same mobile mobile refl refl)
    (λ lawful. let queued = is_kept_after_queue mobile Zero initial in record { modulus = queued.modulus; more = queued.more; sent = queued.sent })

is_kept_frame : (stage : Stage) (place : Place) (mobile : MobileState) (sapi : Sapi) →
    IsKept mobile (after_frame_at stage place mobile sapi)
is_kept_frame New place mobile sapi = is_kept_same mobile mobile refl refl
is_kept_frame Connected Moving mobile sapi = is_kept_same mobile mobile refl refl
is_kept_frame Connected OnChannel mobile sapi = is_kept_with_link mobile sapi _

is_kept_acked : (place : Place) (mobile : MobileState) (sapi : Sapi) → IsKept mobile (after_acked_at place mobile sapi)
is_kept_acked Moving mobile sapi = is_kept_same mobile mobile refl refl
is_kept_acked OnChannel mobile sapi = is_kept_with_link mobile sapi _

is_kept_arrival : (mobile : MobileState) (control : List ℕ) →
    IsKept mobile (cond (may_arrive mobile control) (after_arrival mobile control) mobile)
is_kept_arrival mobile control =
    cond_both (may_arrive mobile control) (after_arrival mobile control) mobile (IsKept mobile)
    (λ _. is_kept_same mobile (after_arrival mobile control) refl refl) (λ _. is_kept_same mobile mobile refl refl)

pub is_kept_call : (mobile : MobileState) (call : Call) → IsKept mobile (after_call mobile call)
is_kept_call mobile (connects initial) = unless_connected_by (IsKept mobile) mobile.stage mobile _ (is_kept_same mobile mobile refl refl) (is_kept_connect mobile initial)
is_kept_call mobile (sends sapi message) =
    unless_refused_by (IsKept mobile) (is_sendable sapi message) (refusal_before_connect mobile.stage) mobile (after_queue mobile sapi message)
    (is_kept_same mobile mobile refl refl) (λ _. is_kept_after_queue mobile sapi message)
is_kept_call mobile (frames sapi) = is_kept_frame mobile.stage mobile.place mobile sapi
is_kept_call mobile (acknowledges sapi) = is_kept_acked mobile.place mobile sapi
is_kept_call mobile leaves = record { modulus = refl; more = []; sent = sym (append-nil mobile.sent) }
is_kept_call mobile (arrives complete) = is_kept_arrival mobile complete
is_kept_call mobile (gives_up failure) = is_kept_arrival mobile failure

pub IsKept-calls : (mobile : MobileState) (calls : List Call) → IsKept mobile (after_calls mobile calls)
IsKept-calls mobile [] = is_kept_same mobile mobile refl refl
IsKept-calls mobile (call ∷ calls) = is_kept_then (is_kept_call mobile call) (IsKept-calls (after_call mobile call) calls)

-- the last message that was taken, after each call
is_last_taken_lent_message : (waiting : List (List ℕ)) (air : Air) (taken : List (List ℕ)) → IsLastTaken air taken → let link : DataLinkState = record { waiting = waiting; air = air } in IsLastTaken (after_lending link).air (taken ++ option_to_list (lent_message link))
is_last_taken_lent_message [] Empty taken last = tt
is_last_taken_lent_message (first ∷ others) Empty taken last = (taken, refl)
is_last_taken_lent_message waiting (Given message) taken last = (taken, refl)
is_last_taken_lent_message waiting (Reached message) taken last = (last.0, append-nil taken ∙ last.1)

is_last_taken_freed : (air : Air) (taken : List (List ℕ)) → IsLastTaken (after_ack air) taken
is_last_taken_freed Empty taken = tt
is_last_taken_freed (Given message) taken = tt
is_last_taken_freed (Reached message) taken = tt

is_last_taken_after_queue : (mobile : MobileState) (taken : List (List ℕ)) (sapi : Sapi) (message : List ℕ) →
    IsLastTaken mobile.zero.air taken →
    IsLastTaken (after_queue mobile sapi message).zero.air taken
is_last_taken_after_queue mobile taken sapi message last =
    cond_both (is_flow_message message) (after_number mobile message) (with_link mobile sapi (waits (link_of mobile sapi) message))
    (λ (new : MobileState). IsLastTaken new.zero.air taken) (λ _. last) (λ _. waiting sapi)
  where
    waiting : (sapi : Sapi) → IsLastTaken (with_link mobile sapi (waits (link_of mobile sapi) message)).zero.air taken
    waiting Zero = last
    waiting Three = last

is_going_after_queue : (m : ℕ) (before : List (List ℕ)) (mobile : MobileState) (taken : List (List ℕ)) (sapi : Sapi) (message : List ℕ) →
    has_clear_number message ≡ true →
    IsGoing m before mobile taken →
    IsGoing m before (after_queue mobile sapi message) taken
is_going_after_queue m before mobile taken sapi message clear going = record {
  numbered = IsNumbered-after_queue before mobile taken sapi message clear going.numbered;
  last = is_last_taken_after_queue mobile taken sapi message going.last;
  modulus = (is_kept_after_queue mobile sapi message).modulus ∙ going.modulus;
}

is_going_connect : (m : ℕ) (before : List (List ℕ)) (mobile : MobileState) (taken : List (List ℕ)) (initial : Option (List ℕ)) →
    IsGoing m before mobile taken →
    IsGoing m before (unless_refused (refusal_of_connect initial) mobile (after_connect mobile initial)) taken
is_going_connect m before mobile taken None going =
    let numbered = going.numbered in
    record { numbered = record { after = numbered.after; parts = numbered.parts; numbers = numbered.numbers; clear = numbered.clear }; last = going.last; modulus = going.modulus }
is_going_connect m before mobile taken (Some initial) going =
    unless_refused_by (λ new. IsGoing m before new taken) (is_initial initial) None mobile (after_connect mobile (Some initial)) going
    (λ lawful.
    let queued = is_going_after_queue m before mobile taken Zero initial (is_initial_clear initial lawful) going in
    let numbered = queued.numbered in
    record { numbered = record { after = numbered.after; parts = numbered.parts; numbers = numbered.numbers; clear = numbered.clear }; last = queued.last; modulus = queued.modulus })

-- what a frame of SAPI 3 or an acknowledgement changes isn't seen on SAPI 0
is_going_frame_three : (m : ℕ) (before : List (List ℕ)) (stage : Stage) (place : Place) (mobile : MobileState) (taken : List (List ℕ)) →
    IsGoing m before mobile taken →
    IsGoing m before (after_frame_at stage place mobile Three) taken
is_going_frame_three m before New place mobile taken going = going
is_going_frame_three m before Connected Moving mobile taken going = going
is_going_frame_three m before Connected OnChannel mobile taken going =
    let numbered = going.numbered in
    record { numbered = record { after = numbered.after; parts = numbered.parts; numbers = numbered.numbers; clear = numbered.clear }; last = going.last; modulus = going.modulus }

is_last_taken_acked : (place : Place) (mobile : MobileState) (taken : List (List ℕ)) (sapi : Sapi) →
    IsLastTaken mobile.zero.air taken →
    IsLastTaken (after_acked_at place mobile sapi).zero.air taken
is_last_taken_acked Moving mobile taken sapi last = last
is_last_taken_acked OnChannel mobile taken Zero last = is_last_taken_freed mobile.zero.air taken
is_last_taken_acked OnChannel mobile taken Three last = last

is_last_taken_frame : (stage : Stage) (place : Place) (mobile : MobileState) (taken : List (List ℕ)) →
    IsLastTaken mobile.zero.air taken →
    IsLastTaken (after_frame_at stage place mobile Zero).zero.air (taken ++ frame_lent (frame_answer_at stage place (lent_message mobile.zero)))
is_last_taken_frame New place mobile taken last = subst (λ (xs : List (List ℕ)). IsLastTaken mobile.zero.air xs) (sym (append-nil taken)) last
is_last_taken_frame Connected Moving mobile taken last = subst (λ (xs : List (List ℕ)). IsLastTaken mobile.zero.air xs) (sym (append-nil taken)) last
is_last_taken_frame Connected OnChannel mobile taken last = is_last_taken_lent_message mobile.zero.waiting mobile.zero.air taken last

-- a call that takes nothing
nothing_taken : (m : ℕ) (before : List (List ℕ)) (mobile : MobileState) (taken : List (List ℕ)) →
    IsGoing m before mobile taken →
    IsGoing m before mobile (taken ++ [])
nothing_taken m before mobile taken going = subst (λ (xs : List (List ℕ)). IsGoing m before mobile xs) (sym (append-nil taken)) going

-- an arrival that isn't allowed changes nothing
is_going_refused : (m : ℕ) (before : List (List ℕ)) (mobile : MobileState) (taken : List (List ℕ)) (control : List ℕ) →
    may_arrive mobile control ≡ false →
    IsGoing m before mobile taken →
    IsGoing m before (cond (may_arrive mobile control) (after_arrival mobile control) mobile) taken
is_going_refused m before mobile taken control not_so going =
    subst (λ (new : MobileState). IsGoing m before new taken) (sym (cond-false (may_arrive mobile control) (after_arrival mobile control) mobile not_so)) going

-- each call in an establishment
pub is_going_call : (m : ℕ) (before : List (List ℕ)) (mobile : MobileState) (taken : List (List ℕ)) (call : Call) →
    begins mobile call ≡ false →
    IsGoing m before mobile taken →
    IsGoing m before (after_call mobile call) (taken ++ taken_by_call mobile call)
is_going_call m before mobile taken (connects initial) doesnt going =
    nothing_taken m before _ taken (unless_connected_by (λ new. IsGoing m before new taken) mobile.stage mobile _ going (is_going_connect m before mobile taken initial going))
is_going_call m before mobile taken (sends sapi message) doesnt going =
    nothing_taken m before _ taken (unless_refused_by (λ new. IsGoing m before new taken) (is_sendable sapi message) (refusal_before_connect mobile.stage) mobile (after_queue mobile sapi message) going
    (λ lawful. is_going_after_queue m before mobile taken sapi message (is_sendable_clear sapi message lawful) going))
is_going_call m before mobile taken (frames Zero) doesnt going = record {
  numbered = IsNumbered-frame before mobile.stage mobile.place mobile taken going.numbered;
  last = is_last_taken_frame mobile.stage mobile.place mobile taken going.last;
  modulus = (is_kept_frame mobile.stage mobile.place mobile Zero).modulus ∙ going.modulus;
}
is_going_call m before mobile taken (frames Three) doesnt going = nothing_taken m before _ taken (is_going_frame_three m before mobile.stage mobile.place mobile taken going)
is_going_call m before mobile taken (acknowledges sapi) doesnt going = nothing_taken m before _ taken (record {
  numbered = IsNumbered-acked before mobile.place mobile taken sapi going.numbered;
  last = is_last_taken_acked mobile.place mobile taken sapi going.last;
  modulus = (is_kept_acked mobile.place mobile sapi).modulus ∙ going.modulus;
})
is_going_call m before mobile taken leaves doesnt going =
    let numbered = going.numbered in
    nothing_taken m before _ taken (record { numbered = record { after = numbered.after; parts = numbered.parts; numbers = numbered.numbers; clear = numbered.clear }; last = going.last; modulus = going.modulus })
is_going_call m before mobile taken (arrives complete) doesnt going = nothing_taken m before _ taken (is_going_refused m before mobile taken complete doesnt going)
is_going_call m before mobile taken (gives_up failure) doesnt going = nothing_taken m before _ taken (is_going_refused m before mobile taken failure doesnt going)

-- the establishments after a call that begins one, and after any other
begun : (m : ℕ) (sent : List (List ℕ)) (b : ℕ) (mobile : MobileState) (taken : List (List ℕ)) (call : Call) (calls : List Call) →
    begins mobile call ≡ true →
    OneRepeat m sent b (taken ∷ establishments (after_call mobile call) [] calls) →
    OneRepeat m sent b (establishments mobile taken (call ∷ calls))
begun m sent b mobile taken call calls does rule =
    subst (λ (list : List (List (List ℕ))). OneRepeat m sent b list)
    (sym (cond-true (begins mobile call) (taken ∷ establishments (after_call mobile call) [] calls) (establishments (after_call mobile call) (taken ++ taken_by_call mobile call) calls) does)) rule

handed_not_begun : (m : ℕ) (sent : List (List ℕ)) (b : ℕ) (mobile : MobileState) (taken : List (List ℕ)) (call : Call) (calls : List Call) →
    begins mobile call ≡ false →
    OneRepeat m sent b (establishments (after_call mobile call) (taken ++ taken_by_call mobile call) calls) →
    OneRepeat m sent b (establishments mobile taken (call ∷ calls))
handed_not_begun m sent b mobile taken call calls doesnt rule =
    subst (λ (list : List (List (List ℕ))). OneRepeat m sent b list)
    (sym (cond-false (begins mobile call) (taken ∷ establishments (after_call mobile call) [] calls) (establishments (after_call mobile call) (taken ++ taken_by_call mobile call) calls) doesnt)) rule

-- a slice, and then the slices of the channel that the mobile arrives on
one_repeat_cut : (m : ℕ) (before sent more taken unsent : List (List ℕ)) (others : List (List (List ℕ))) (cut : IsCut m before sent taken unsent) →
    OneRepeat m (sent ++ more) (length cut.next) others →
    OneRepeat m (sent ++ more) (length before) (taken ∷ others)
one_repeat_cut m before sent more taken unsent others cut rule =
    elim cut.begins [
      | inl same ↦ carries_on (is_slice_grow m sent more (length before) (length cut.next) taken (is_slice_of_parts m sent before cut.part cut.rest taken (length cut.next) cut.parts cut.taken_is same)) rule
      | inr last ↦ repeats last.1 (is_slice_grow m sent more (length before) (length cut.next + 1) taken (is_slice_of_parts m sent before cut.part cut.rest taken (length cut.next + 1) cut.parts cut.taken_is last.0)) rule
    ]

-- a call that begins an establishment is an arrival
pub record IsArrival (mobile : MobileState) (call : Call) : Type 0 where
  pub control : List ℕ
  pub is_one : is_control control ≡ true
  pub arrived : after_call mobile call ≡ after_arrival mobile control

arrival_of : (mobile : MobileState) (control : List ℕ) (call : Call) →
    may_arrive mobile control ≡ true →
    after_call mobile call ≡ cond (may_arrive mobile control) (after_arrival mobile control) mobile →
    IsArrival mobile call
arrival_of mobile control call does is = record {
  control = control;
  is_one = second_so _ (is_control control) does;
  arrived = is ∙ cond-true (may_arrive mobile control) (after_arrival mobile control) mobile does;
}

pub is_arrival_begins : (mobile : MobileState) (call : Call) → begins mobile call ≡ true → IsArrival mobile call
is_arrival_begins mobile (arrives complete) does = arrival_of mobile complete (arrives complete) does refl
is_arrival_begins mobile (gives_up failure) does = arrival_of mobile failure (gives_up failure) does refl
is_arrival_begins mobile (connects initial) does = absurd cc
is_arrival_begins mobile (sends sapi message) does = absurd cc
is_arrival_begins mobile (frames sapi) does = absurd cc
is_arrival_begins mobile (acknowledges sapi) does = absurd cc
is_arrival_begins mobile leaves does = absurd cc

-- the slices from an establishment on
pub OneRepeat-calls : (m : ℕ) (before : List (List ℕ)) (mobile : MobileState) (taken : List (List ℕ)) (calls : List Call) →
    IsGoing m before mobile taken →
    OneRepeat m (after_calls mobile calls).sent (length before) (establishments mobile taken calls)
OneRepeat-calls m before mobile taken [] going =
    let cut = arrival_cut m before mobile taken going in
    subst (λ (xs : List (List ℕ)). OneRepeat m xs (length before) (taken ∷ [])) (append-nil mobile.sent)
    (one_repeat_cut m before mobile.sent [] taken _ [] cut (over (length cut.next)))
OneRepeat-calls m before mobile taken (call ∷ calls) going =
    elim (cases_Bool (begins mobile call)) [
      | inl does ↦
          let arrival = is_arrival_begins mobile call does in
          let cut = arrival_cut m before mobile taken going in
          let next : IsGoing m cut.next (after_call mobile call) [] =
          subst (λ (new : MobileState). IsGoing m cut.next new []) (sym arrival.arrived) (arrival_going m before mobile taken arrival.control arrival.is_one going) in
          let later = OneRepeat-calls m cut.next (after_call mobile call) [] calls next in
          let kept = is_kept_then (is_kept_call mobile call) (IsKept-calls (after_call mobile call) calls) in
          begun m (after_calls mobile (call ∷ calls)).sent (length before) mobile taken call calls does
          (subst (λ (xs : List (List ℕ)). OneRepeat m xs (length before) (taken ∷ establishments (after_call mobile call) [] calls)) (sym kept.sent)
          (one_repeat_cut m before mobile.sent kept.more taken _ _ cut (subst (λ (xs : List (List ℕ)). OneRepeat m xs (length cut.next) (establishments (after_call mobile call) [] calls)) kept.sent later)))
      | inr doesnt ↦
          handed_not_begun m (after_calls mobile (call ∷ calls)).sent (length before) mobile taken call calls doesnt
          (OneRepeat-calls m before (after_call mobile call) (taken ++ taken_by_call mobile call) calls (is_going_call m before mobile taken call doesnt going))
    ]

-- nothing was taken of a mobile that never sent
pub IsGoing-new : (m : ℕ) → IsGoing m [] (new_mobile m) []
IsGoing-new m = record { numbered = IsNumbered-new m; last = tt; modulus = refl }
