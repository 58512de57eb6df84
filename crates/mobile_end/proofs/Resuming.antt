-- SPDX-License-Identifier: MIT OR Apache-2.0
-- A change of channel keeps the numbers: the next slice begins where the last one ended, or at that
-- one's last message.
use Rattle.std.proofs.Common.{◌≡◌, ℕ, ◌+◌, ◌%◌, ◌≤◌, ◌⊎◌, true, false, not, List, [], ◌∷◌, ◌++◌, length, refl, sym, ap, ◌∙◌, subst, arith, append_assoc, inl, inr, filter, option_to_list, length-append}
use Rattle.std.proofs.lemmas.Bool.{cases_Bool, cond-true, cond-false, eqb-true}
use Rattle.std.proofs.lemmas.List.Elements.{filter-append}
use Rattle.dtap_codec.specs.Message.{is_flow_message, is_flow_protocol}
use Rattle.dtap_codec.specs.Number.{with_number}
use Rattle.dtap_codec.specs.Places.{with_numbers_from}
use Rattle.dtap_codec.specs.declared.message.TheConstants.{RADIO_RESOURCE}
use Rattle.dtap_codec.proofs.Numbers.{with_numbers_from-append}
use Rattle.link_model.specs.AirLink.{message_in, offered_message}
use Rattle.link_model.specs.declared.air_link.Air.{Air}
use Rattle.link_model.specs.declared.air_link.Air.TheVariants.{Empty, Given, Reached}
use Rattle.mobile_end.specs.Control.{is_control, without_control}
use Rattle.mobile_end.specs.DataLink.{outstanding_messages}
use Rattle.mobile_end.specs.MobileState.{MobileState}
use Rattle.mobile_end.specs.Mobile.{after_arrival}
use Rattle.mobile_end.proofs.Numbering.{IsNumbered}

-- a message of radio resource management is not of the flow
pub is_control_apart : (message : List ℕ) → is_control message ≡ true → is_flow_message message ≡ false
is_control_apart [] control = refl
is_control_apart (first ∷ []) control = refl
is_control_apart (first ∷ second ∷ rest) control = ap is_flow_protocol (eqb-true (first % 16) RADIO_RESOURCE control)

-- so the flow is the same without them
pub without_control-flow : (messages : List (List ℕ)) → filter is_flow_message (without_control messages) ≡ filter is_flow_message messages
without_control-flow [] = refl
without_control-flow (x ∷ xs) =
    elim (cases_Bool (is_control x)) [
      | inl control ↦
          let dropped : without_control (x ∷ xs) ≡ without_control xs = cond-false (not (is_control x)) (x ∷ without_control xs) (without_control xs) (ap not control) in
          let apart : filter is_flow_message (x ∷ xs) ≡ filter is_flow_message xs = cond-false (is_flow_message x) (x ∷ filter is_flow_message xs) (filter is_flow_message xs) (is_control_apart x control) in
          ap (filter is_flow_message) dropped ∙ without_control-flow xs ∙ sym apart
      | inr other ↦
          let stays : without_control (x ∷ xs) ≡ x ∷ without_control xs = cond-true (not (is_control x)) (x ∷ without_control xs) (without_control xs) (ap not other) in
          ap (filter is_flow_message) stays ∙ filter-append is_flow_message (x ∷ []) (without_control xs)
          ∙ ap (λ (ys : List (List ℕ)). filter is_flow_message (x ∷ []) ++ ys) (without_control-flow xs) ∙ sym (filter-append is_flow_message (x ∷ []) xs)
    ]

-- numbers in two parts number two parts
pub with_numbers_from_split : (m k : ℕ) (zs xs ys : List (List ℕ)) →
    xs ++ ys ≡ with_numbers_from m k zs →
    (first : List (List ℕ)) × (rest : List (List ℕ)) × (first ++ rest ≡ zs) × (xs ≡ with_numbers_from m k first) × (ys ≡ with_numbers_from m (k + length first) rest)
with_numbers_from_split m k zs [] ys is =
    let here : k ≡ k + 0 = omega arith in
    ([], zs, refl, refl, is ∙ ap (λ (n : ℕ). with_numbers_from m n zs) here)
with_numbers_from_split m k [] (x ∷ xs) ys is = absurd cc
with_numbers_from_split m k (z ∷ zs) (x ∷ xs) ys is =
    let behind : xs ++ ys ≡ with_numbers_from m (k + 1) zs = cc in
    let parts = with_numbers_from_split m (k + 1) zs xs ys behind in
    let first_is : x ≡ with_number (k % m) z = cc in
    let here : k + 1 + length parts.0 ≡ k + length (z ∷ parts.0) = omega arith in (
      z ∷ parts.0,
      parts.1,
      ap (λ (list : List (List ℕ)). z ∷ list) parts.2,
      ap (λ (first : List ℕ). first ∷ xs) first_is ∙ ap (λ (list : List (List ℕ)). with_number (k % m) z ∷ list) parts.3,
      parts.4 ∙ ap (λ (n : ℕ). with_numbers_from m n parts.1) here,
    )

-- a message that the station took and that wasn't acknowledged is the last that it took
abbrev pub IsLastTaken : Air → List (List ℕ) → Type 0
IsLastTaken Empty taken = Unit {0}
IsLastTaken (Given message) taken = Unit {0}
IsLastTaken (Reached message) taken = (others : List (List ℕ)) × (taken ≡ others ++ message ∷ [])

-- what is known of a mobile in an establishment
pub record IsGoing (m : ℕ) (before : List (List ℕ)) (mobile : MobileState) (taken : List (List ℕ)) : Type 0 where
  pub numbered : IsNumbered before mobile taken
  pub last : IsLastTaken mobile.zero.air taken
  pub modulus : mobile.modulus ≡ m

-- The slice that an establishment took, and those before which the next one begins.
pub record IsCut (m : ℕ) (before : List (List ℕ)) (sent taken unsent : List (List ℕ)) : Type 0 where
  pub part : List (List ℕ)
  pub rest : List (List ℕ)
  pub parts : before ++ (part ++ rest) ≡ sent
  pub taken_is : filter is_flow_message taken ≡ with_numbers_from m (length before) part
  pub next : List (List ℕ)
  pub others : List (List ℕ)
  pub next_parts : next ++ others ≡ sent
  pub unsent_is : filter is_flow_message unsent ≡ with_numbers_from m (length next) others
  pub begins : (length next ≡ length before + length part) ⊎ ((length next + 1 ≡ length before + length part) × (length before ≤ length next))

-- where all that was taken is acknowledged, the next slice begins where this one ends
cut_after : (m : ℕ) (before after sent taken unsent : List (List ℕ)) →
    before ++ after ≡ sent →
    filter is_flow_message (taken ++ unsent) ≡ with_numbers_from m (length before) after →
    IsCut m before sent taken unsent
cut_after m before after sent taken unsent parts numbers =
    let halves = with_numbers_from_split m (length before) after (filter is_flow_message taken) (filter is_flow_message unsent) (sym (filter-append is_flow_message taken unsent) ∙ numbers) in
    let whole : before ++ (halves.0 ++ halves.1) ≡ sent = ap (λ (xs : List (List ℕ)). before ++ xs) halves.2 ∙ parts in
    record {
      part = halves.0;
      rest = halves.1;
      parts = whole;
      taken_is = halves.3;
      next = before ++ halves.0;
      others = halves.1;
      next_parts = append_assoc before halves.0 halves.1 ∙ whole;
      unsent_is = halves.4 ∙ ap (λ (n : ℕ). with_numbers_from m n halves.1) (sym (length-append before halves.0));
      begins = inl (length-append before halves.0);
    }

-- a message apart from the flow may be moved over the cut
filter-apart : (x : List ℕ) (xs : List (List ℕ)) → is_flow_message x ≡ false → filter is_flow_message (x ∷ xs) ≡ filter is_flow_message xs
filter-apart x xs apart = cond-false (is_flow_message x) (x ∷ filter is_flow_message xs) (filter is_flow_message xs) apart

-- one message has one number
one_number : (m k : ℕ) (x : List ℕ) (zs : List (List ℕ)) → x ∷ [] ≡ with_numbers_from m k zs → length zs ≡ 1
one_number m k x [] is = absurd cc
one_number m k x (z ∷ []) is = refl
one_number m k x (z ∷ y ∷ zs) is = absurd cc

-- where the last one that was taken is of the flow and wasn't acknowledged, the next slice begins
-- at it
cut_at_last : (m : ℕ) (before after sent others waiting : List (List ℕ)) (x : List ℕ) →
    is_flow_message x ≡ true →
    before ++ after ≡ sent →
    filter is_flow_message ((others ++ x ∷ []) ++ waiting) ≡ with_numbers_from m (length before) after →
    IsCut m before sent (others ++ x ∷ []) (x ∷ waiting)
cut_at_last m before after sent others waiting x flow parts numbers =
    let alone : filter is_flow_message (x ∷ []) ≡ x ∷ [] = cond-true (is_flow_message x) (x ∷ []) [] flow in
    let earlier = with_numbers_from_split m (length before) after (filter is_flow_message others) (filter is_flow_message (x ∷ waiting))
    (sym (filter-append is_flow_message others (x ∷ waiting)) ∙ ap (filter is_flow_message) (sym (append_assoc others (x ∷ []) waiting)) ∙ numbers) in
    let later = with_numbers_from_split m (length before + length earlier.0) earlier.1 (filter is_flow_message (x ∷ [])) (filter is_flow_message waiting)
    (sym (filter-append is_flow_message (x ∷ []) waiting) ∙ earlier.4) in
    let one : length later.0 ≡ 1 = one_number m (length before + length earlier.0) x later.0 (sym alone ∙ later.3) in
    let joined : (before ++ earlier.0) ++ earlier.1 ≡ sent = append_assoc before earlier.0 earlier.1 ∙ ap (λ (xs : List (List ℕ)). before ++ xs) earlier.2 ∙ parts in
    let regrouped : before ++ ((earlier.0 ++ later.0) ++ later.1) ≡ sent =
    ap (λ (xs : List (List ℕ)). before ++ xs) (append_assoc earlier.0 later.0 later.1 ∙ ap (λ (xs : List (List ℕ)). earlier.0 ++ xs) later.2 ∙ earlier.2) ∙ parts in
    let place : length (before ++ earlier.0) ≡ length before + length earlier.0 = length-append before earlier.0 in
    let both : length (earlier.0 ++ later.0) ≡ length earlier.0 + length later.0 = length-append earlier.0 later.0 in
    record {
      part = earlier.0 ++ later.0;
      rest = later.1;
      parts = regrouped;
      taken_is =
          filter-append is_flow_message others (x ∷ []) ∙ ap (λ (xs : List (List ℕ)). xs ++ filter is_flow_message (x ∷ [])) earlier.3
          ∙ ap (λ (xs : List (List ℕ)). with_numbers_from m (length before) earlier.0 ++ xs) later.3 ∙ sym (with_numbers_from-append m (length before) earlier.0 later.0);
      next = before ++ earlier.0;
      others = earlier.1;
      next_parts = joined;
      unsent_is = earlier.4 ∙ ap (λ (n : ℕ). with_numbers_from m n earlier.1) (sym place);
      begins = inr (omega (arith, place, both, one), omega (arith, place));
    }

-- the two cases of the message in the air
cut_by : (m : ℕ) (before after sent taken waiting : List (List ℕ)) (air : Air) →
    before ++ after ≡ sent →
    IsLastTaken air taken →
    filter is_flow_message (taken ++ (option_to_list (offered_message air) ++ waiting)) ≡ with_numbers_from m (length before) after →
    IsCut m before sent taken (option_to_list (message_in air) ++ waiting)
cut_by m before after sent taken waiting Empty parts last numbers = cut_after m before after sent taken waiting parts numbers
cut_by m before after sent taken waiting (Given x) parts last numbers = cut_after m before after sent taken (x ∷ waiting) parts numbers
cut_by m before after sent taken waiting (Reached x) parts last numbers =
    elim (cases_Bool (is_flow_message x)) [
      | inl flow ↦
          let at_last = cut_at_last m before after sent last.0 waiting x flow parts (ap (λ (xs : List (List ℕ)). filter is_flow_message (xs ++ waiting)) (sym last.1) ∙ numbers) in
          subst (λ (xs : List (List ℕ)). IsCut m before sent xs (x ∷ waiting)) (sym last.1) at_last
      | inr apart ↦
          let passed : filter is_flow_message (taken ++ (x ∷ waiting)) ≡ with_numbers_from m (length before) after =
          filter-append is_flow_message taken (x ∷ waiting) ∙ ap (λ (xs : List (List ℕ)). filter is_flow_message taken ++ xs) (filter-apart x waiting apart)
          ∙ sym (filter-append is_flow_message taken waiting) ∙ numbers in
          cut_after m before after sent taken (x ∷ waiting) parts passed
    ]

-- the cut that a change of channel makes
pub arrival_cut : (m : ℕ) (before : List (List ℕ)) (mobile : MobileState) (taken : List (List ℕ)) →
    IsGoing m before mobile taken →
    IsCut m before mobile.sent taken (outstanding_messages mobile.zero)
arrival_cut m before mobile taken going =
    cut_by m before going.numbered.after mobile.sent taken mobile.zero.waiting mobile.zero.air going.numbered.parts going.last
    (going.numbered.numbers ∙ ap (λ (n : ℕ). with_numbers_from n (length before) going.numbered.after) going.modulus)

-- and what is known of the mobile on the new channel
pub arrival_going : (m : ℕ) (before : List (List ℕ)) (mobile : MobileState) (taken : List (List ℕ)) (control : List ℕ) →
    is_control control ≡ true →
    (going : IsGoing m before mobile taken) →
    IsGoing m (arrival_cut m before mobile taken going).next (after_arrival mobile control) []
arrival_going m before mobile taken control is going =
    let cut = arrival_cut m before mobile taken going in
    record {
      numbered = record {
        after = cut.others;
        parts = cut.next_parts;
        numbers =
            filter-apart control (without_control (outstanding_messages mobile.zero)) (is_control_apart control is) ∙ without_control-flow (outstanding_messages mobile.zero)
            ∙ cut.unsent_is ∙ ap (λ (n : ℕ). with_numbers_from n (length cut.next) cut.others) (sym going.modulus);
        clear = going.numbered.clear;
      };
      last = tt;
      modulus = going.modulus;
    }
