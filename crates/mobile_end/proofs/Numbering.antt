-- SPDX-License-Identifier: MIT OR Apache-2.0
-- Each call keeps the numbers of a mobile's messages.
use Rattle.std.proofs.Common.{◌≡◌, ℕ, ◌+◌, ◌*◌, ◌%◌, ◌<◌, true, false, List, [], ◌∷◌, ◌++◌, length, refl, sym, ap, ◌∙◌, subst, arith, append_assoc, filter, nat_lt, option_to_list, length-append}
use Rattle.std.proofs.lemmas.Bool.{cond-true, cond-false, cond_both, ltb-true}
use Rattle.std.proofs.lemmas.List.{append-nil}
use Rattle.std.proofs.lemmas.List.Elements.{filter-append}
use Rattle.dtap_codec.specs.Message.{is_flow_message, is_flow_protocol}
use Rattle.dtap_codec.specs.Number.{with_number}
use Rattle.dtap_codec.specs.Places.{with_numbers_from, IsClear, AreClear}
use Rattle.dtap_codec.specs.declared.sapi.Sapi.{Sapi}
use Rattle.dtap_codec.specs.declared.sapi.Sapi.TheVariants.{Zero, Three}
use Rattle.dtap_codec.proofs.Numbers.{is_flow_with_number, with_numbers_from-append, AreClear-push}
use Rattle.link_model.specs.AirLink.{offered_message}
use Rattle.link_model.specs.declared.air_link.Air.{Air}
use Rattle.link_model.specs.declared.air_link.Air.TheVariants.{Empty, Given, Reached}
use Rattle.mobile_end.specs.declared.mobile_end.Place.{Place}
use Rattle.mobile_end.specs.declared.mobile_end.Place.TheVariants.{OnChannel, Moving}
use Rattle.mobile_end.specs.declared.mobile_end.Stage.{Stage}
use Rattle.mobile_end.specs.declared.mobile_end.Stage.TheVariants.{New, Connected}
use Rattle.mobile_end.specs.declared.lawful.TheConstants.{NUMBER_BIT}
use Rattle.mobile_end.specs.DataLinkState.{DataLinkState}
use Rattle.mobile_end.specs.DataLink.{waits, lent_message, after_lending, after_acknowledgement, to_be_taken}
use Rattle.mobile_end.specs.Lawful.{has_clear_number}
use Rattle.mobile_end.specs.MobileState.{MobileState}
use Rattle.mobile_end.specs.Mobile.{new_mobile, after_queue, after_number, with_link, link_of, after_frame_at, frame_answer_at, after_acked_at}
use Rattle.mobile_end.specs.Calls.{frame_lent}

-- a message that waits is the last that the station can take
pub to_be_taken-waits : (link : DataLinkState) (message : List ℕ) → to_be_taken (waits link message) ≡ to_be_taken link ++ message ∷ []
to_be_taken-waits link message = sym (append_assoc (option_to_list (offered_message link.air)) link.waiting (message ∷ []))

to_be_taken-one_more : (taken : List (List ℕ)) (link : DataLinkState) (message : List ℕ) →
    taken ++ to_be_taken (waits link message) ≡ (taken ++ to_be_taken link) ++ message ∷ []
to_be_taken-one_more taken link message = ap (λ (ys : List (List ℕ)). taken ++ ys) (to_be_taken-waits link message) ∙ sym (append_assoc taken (to_be_taken link) (message ∷ []))

-- what the station takes is the first that it can take
pub to_be_taken-lent_message : (waiting : List (List ℕ)) (air : Air) → let link : DataLinkState = record { waiting = waiting; air = air } in option_to_list (lent_message link) ++ to_be_taken (after_lending link) ≡ to_be_taken link
to_be_taken-lent_message [] Empty = refl
to_be_taken-lent_message (first ∷ others) Empty = refl
to_be_taken-lent_message waiting (Given message) = refl
to_be_taken-lent_message waiting (Reached message) = refl

-- an acknowledgement changes nothing of it
pub to_be_taken-acknowledged : (waiting : List (List ℕ)) (air : Air) → let link : DataLinkState = record { waiting = waiting; air = air } in to_be_taken (after_acknowledgement link) ≡ to_be_taken link
to_be_taken-acknowledged waiting Empty = refl
to_be_taken-acknowledged waiting (Given message) = refl
to_be_taken-acknowledged waiting (Reached message) = refl

-- what may be sent has no number yet
pub IsClear-flow : (message : List ℕ) → has_clear_number message ≡ true → is_flow_message message ≡ true → IsClear message
IsClear-flow [] clear flow = absurd cc
IsClear-flow (first ∷ []) clear flow = absurd cc
IsClear-flow (first ∷ second ∷ rest) clear flow =
    let small : second < 64 = ltb-true second NUMBER_BIT (sym (cond-true (is_flow_protocol (first % 16)) (nat_lt second NUMBER_BIT) true flow) ∙ clear) in
    let low : second % 64 + 64 * 0 ≡ second = omega arith in
    record { is_flow = flow; cleared = ap (λ (octet : ℕ). first ∷ octet ∷ rest) low }

-- one more message of the flow
numbers_flow : (m b : ℕ) (front after : List (List ℕ)) (message : List ℕ) →
    is_flow_message message ≡ true →
    filter is_flow_message front ≡ with_numbers_from m b after →
    filter is_flow_message (front ++ with_number ((b + length after) % m) message ∷ []) ≡ with_numbers_from m b (after ++ message ∷ [])
numbers_flow m b front after message flow is =
    let last : List ℕ = with_number ((b + length after) % m) message in
    let kept : filter is_flow_message (last ∷ []) ≡ last ∷ [] = cond-true (is_flow_message last) (last ∷ []) [] (is_flow_with_number ((b + length after) % m) message ∙ flow) in
    filter-append is_flow_message front (last ∷ []) ∙ ap (λ (xs : List (List ℕ)). xs ++ filter is_flow_message (last ∷ [])) is
    ∙ ap (λ (ys : List (List ℕ)). with_numbers_from m b after ++ ys) kept ∙ sym (with_numbers_from-append m b after (message ∷ []))

-- one more message of another protocol
numbers_other : (front numbers : List (List ℕ)) (message : List ℕ) →
    is_flow_message message ≡ false →
    filter is_flow_message front ≡ numbers →
    filter is_flow_message (front ++ message ∷ []) ≡ numbers
numbers_other front numbers message apart is =
    let left_out : filter is_flow_message (message ∷ []) ≡ [] = cond-false (is_flow_message message) (message ∷ []) [] apart in
    filter-append is_flow_message front (message ∷ []) ∙ ap (λ (ys : List (List ℕ)). filter is_flow_message front ++ ys) left_out
    ∙ append-nil (filter is_flow_message front) ∙ is

-- The messages of the flow among those that a station took since those before, and those that it
-- can still take, are the sent list from there, each once, with the number of its place.
pub record IsNumbered (before : List (List ℕ)) (mobile : MobileState) (taken : List (List ℕ)) : Type 0 where
  pub after : List (List ℕ)
  pub parts : before ++ after ≡ mobile.sent
  pub numbers : filter is_flow_message (taken ++ to_be_taken mobile.zero) ≡ with_numbers_from mobile.modulus (length before) after
  pub clear : AreClear mobile.sent

-- a message of the flow that waits
is_numbered_after_number : (before : List (List ℕ)) (mobile : MobileState) (taken : List (List ℕ)) (message : List ℕ) →
    IsClear message →
    IsNumbered before mobile taken →
    IsNumbered before (after_number mobile message) taken
is_numbered_after_number before mobile taken message clear so_far =
    let place : length before + length so_far.after ≡ length mobile.sent = sym (length-append before so_far.after) ∙ ap length so_far.parts in
    let one_more = numbers_flow mobile.modulus (length before) (taken ++ to_be_taken mobile.zero) so_far.after message clear.is_flow so_far.numbers in
    record {
      after = so_far.after ++ message ∷ [];
      parts = sym (append_assoc before so_far.after (message ∷ [])) ∙ ap (λ (xs : List (List ℕ)). xs ++ message ∷ []) so_far.parts;
      numbers =
          ap (filter is_flow_message) (to_be_taken-one_more taken mobile.zero (with_number (length mobile.sent % mobile.modulus) message))
          ∙ ap (λ (n : ℕ). filter is_flow_message ((taken ++ to_be_taken mobile.zero) ++ with_number (n % mobile.modulus) message ∷ [])) (sym place)
          ∙ one_more;
      clear = AreClear-push mobile.sent message so_far.clear clear;
    }

-- a message of another protocol that waits
is_numbered_waiting : (before : List (List ℕ)) (mobile : MobileState) (taken : List (List ℕ)) (sapi : Sapi) (message : List ℕ) →
    is_flow_message message ≡ false →
    IsNumbered before mobile taken →
    IsNumbered before (with_link mobile sapi (waits (link_of mobile sapi) message)) taken
is_numbered_waiting before mobile taken Zero message apart so_far = record {
  after = so_far.after;
  parts = so_far.parts;
  numbers = ap (filter is_flow_message) (to_be_taken-one_more taken mobile.zero message) ∙ numbers_other (taken ++ to_be_taken mobile.zero) _ message apart so_far.numbers;
  clear = so_far.clear;
}
is_numbered_waiting before mobile taken Three message apart so_far = record { after = so_far.after; parts = so_far.parts; numbers = so_far.numbers; clear = so_far.clear }

-- a message that waits leaves what the station took, and what it can take, numbered
pub IsNumbered-after_queue : (before : List (List ℕ)) (mobile : MobileState) (taken : List (List ℕ)) (sapi : Sapi) (message : List ℕ) →
    has_clear_number message ≡ true →
    IsNumbered before mobile taken →
    IsNumbered before (after_queue mobile sapi message) taken
IsNumbered-after_queue before mobile taken sapi message clear so_far =
    cond_both (is_flow_message message) (after_number mobile message) (with_link mobile sapi (waits (link_of mobile sapi) message))
    (λ (new : MobileState). IsNumbered before new taken)
    (λ flow. is_numbered_after_number before mobile taken message (IsClear-flow message clear flow) so_far)
    (λ apart. is_numbered_waiting before mobile taken sapi message apart so_far)

-- a frame that the station takes is the first of those that it can take
pub IsNumbered-frame : (before : List (List ℕ)) (stage : Stage) (place : Place) (mobile : MobileState) (taken : List (List ℕ)) →
    IsNumbered before mobile taken →
    IsNumbered before (after_frame_at stage place mobile Zero) (taken ++ frame_lent (frame_answer_at stage place (lent_message mobile.zero)))
IsNumbered-frame before New place mobile taken so_far = subst (λ (xs : List (List ℕ)). IsNumbered before mobile xs) (sym (append-nil taken)) so_far
IsNumbered-frame before Connected Moving mobile taken so_far = subst (λ (xs : List (List ℕ)). IsNumbered before mobile xs) (sym (append-nil taken)) so_far
IsNumbered-frame before Connected OnChannel mobile taken so_far = record {
  after = so_far.after;
  parts = so_far.parts;
  numbers =
      ap (filter is_flow_message) (append_assoc taken (option_to_list (lent_message mobile.zero)) (to_be_taken (after_lending mobile.zero))
      ∙ ap (λ (xs : List (List ℕ)). taken ++ xs) (to_be_taken-lent_message mobile.zero.waiting mobile.zero.air))
      ∙ so_far.numbers;
  clear = so_far.clear;
}

-- an acknowledgement leaves it so
pub IsNumbered-acked : (before : List (List ℕ)) (place : Place) (mobile : MobileState) (taken : List (List ℕ)) (sapi : Sapi) →
    IsNumbered before mobile taken →
    IsNumbered before (after_acked_at place mobile sapi) taken
IsNumbered-acked before Moving mobile taken sapi so_far = so_far
IsNumbered-acked before OnChannel mobile taken Zero so_far = record {
  after = so_far.after;
  parts = so_far.parts;
  numbers = ap (λ (xs : List (List ℕ)). filter is_flow_message (taken ++ xs)) (to_be_taken-acknowledged mobile.zero.waiting mobile.zero.air) ∙ so_far.numbers;
  clear = so_far.clear;
}
IsNumbered-acked before OnChannel mobile taken Three so_far = record { after = so_far.after; parts = so_far.parts; numbers = so_far.numbers; clear = so_far.clear }

-- a mobile that never sent has nothing to number
pub IsNumbered-new : (m : ℕ) → IsNumbered [] (new_mobile m) []
IsNumbered-new m = record { after = []; parts = refl; numbers = refl; clear = tt }
