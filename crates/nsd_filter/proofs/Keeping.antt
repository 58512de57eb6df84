-- SPDX-License-Identifier: MIT OR Apache-2.0
-- What the network's end of a connection keeps, message by message.
use Rattle.std.proofs.Common.{◌≡◌, ℕ, ◌/◌, ◌%◌, Bool, true, false, Option, Some, None, List, [], ◌∷◌, ◌++◌, refl, sym, ap, ◌∙◌, subst, not, filter, option_map, inl, inr}
use Rattle.std.proofs.lemmas.Bool.{cases_Bool, cond-true}
use Rattle.std.proofs.lemmas.List.{append-nil}
use Rattle.std.proofs.lemmas.List.Elements.{filter-append}
use Rattle.dtap_codec.specs.Message.{is_flow_message, is_flow_protocol}
use Rattle.dtap_codec.specs.Number.{number_in, without_number}
use Rattle.dtap_codec.proofs.Numbers.{number_in-other}
use Rattle.nsd_filter.specs.Judgement.{judgement, progress_after}
use Rattle.nsd_filter.specs.Filter.{FilterState, IsStateOf}
use Rattle.nsd_filter.specs.AcceptedList.{verdict_on, delivery_of, delivery_by, progress_past, accepted_list, progress, not_of_the_flow}
use Rattle.nsd_filter.specs.Reception.{IsKept}
use Rattle.nsd_filter.specs.declared.verdict.Verdict.{Verdict}
use Rattle.nsd_filter.proofs.Accepting.{accepted_list_from-append, progress_from-append}

-- a message with a number is of the flow, and one without isn't
is_flow_by_number : (m : ℕ) (message : List ℕ) (number : ℕ) → number_in m message ≡ Some number → is_flow_message message ≡ true
is_flow_by_number m message number is =
    elim (cases_Bool (is_flow_message message)) [
      | inl flow ↦ flow
      | inr apart ↦ let none = number_in-other m message apart in absurd cc
    ]

apart_by_number : (m : ℕ) (message : List ℕ) → number_in m message ≡ None → is_flow_message message ≡ false
apart_by_number m [] is = refl
apart_by_number m (first ∷ []) is = refl
apart_by_number m (first ∷ second ∷ rest) is =
    elim (cases_Bool (is_flow_protocol (first % 16))) [
      | inl flow ↦ let some = cond-true (is_flow_protocol (first % 16)) (Some ((second / 64) % m)) None flow in absurd cc
      | inr apart ↦ apart
    ]

-- the accepted list with one more message
accepted_list-push : (m : ℕ) (taken : List (List ℕ)) (message : List ℕ) (v : Option Verdict) →
    verdict_on m (progress m taken) message ≡ v →
    accepted_list m (taken ++ message ∷ []) ≡ accepted_list m taken ++ delivery_of v message
accepted_list-push m taken message v is =
    accepted_list_from-append m (Some 0) taken (message ∷ [])
    ∙ ap (λ (more : List (List ℕ)). accepted_list m taken ++ more) (append-nil (delivery_of (verdict_on m (progress m taken) message) message) ∙ ap (λ (v : Option Verdict). delivery_of v message) is)

progress-push : (m : ℕ) (taken : List (List ℕ)) (message : List ℕ) (v : Option Verdict) →
    verdict_on m (progress m taken) message ≡ v →
    progress m (taken ++ message ∷ []) ≡ progress_past v (progress m taken)
progress-push m taken message v is =
    progress_from-append m (Some 0) taken (message ∷ []) ∙ ap (λ (v : Option Verdict). progress_past v (progress m taken)) is

not_of_the_flow-push : (taken : List (List ℕ)) (message : List ℕ) (b : Bool) → is_flow_message message ≡ b →
    not_of_the_flow (taken ++ message ∷ []) ≡ not_of_the_flow taken ++ filter (λ _. not b) (message ∷ [])
not_of_the_flow-push taken message b is =
    filter-append (λ message. not (is_flow_message message)) taken (message ∷ [])
    ∙ ap (λ (b : Bool). not_of_the_flow taken ++ filter (λ _. not b) (message ∷ [])) is

-- a message of the flow was judged
pub is_kept_numbered : (m : ℕ) (old new : FilterState) (taken accepted others : List (List ℕ)) (message : List ℕ)
    (number : ℕ) (verdict : Verdict) → number_in m message ≡ Some number → IsKept m old taken accepted others →
    ((p : Option ℕ) → IsStateOf old p → verdict ≡ judgement old.modulus p number) →
    ((p : Option ℕ) → IsStateOf old p → IsStateOf new (progress_after old.modulus p number)) →
    new.modulus ≡ old.modulus →
    IsKept m new (taken ++ message ∷ []) (accepted ++ delivery_by verdict (without_number message)) others
is_kept_numbered m old new taken accepted others message number verdict is kept judges carries_on same_modulus =
    let judged : verdict ≡ judgement m (progress m taken) number = judges (progress m taken) kept.is_state ∙ ap (λ (n : ℕ). judgement n (progress m taken) number) kept.modulus in
    let is_state : IsStateOf new (progress_after m (progress m taken) number) = subst (λ (n : ℕ). IsStateOf new (progress_after n (progress m taken) number)) kept.modulus (carries_on (progress m taken) kept.is_state) in
    let on : verdict_on m (progress m taken) message ≡ Some (judgement m (progress m taken) number) = ap (option_map (judgement m (progress m taken))) is in
    record {
      modulus = same_modulus ∙ kept.modulus;
      is_state = subst (IsStateOf new) (sym (progress-push m taken message _ on)) is_state;
      accepts =
          ap (λ (xs : List (List ℕ)). xs ++ delivery_by verdict (without_number message)) kept.accepts
          ∙ ap (λ (v : Verdict). accepted_list m taken ++ delivery_by v (without_number message)) judged
          ∙ sym (accepted_list-push m taken message _ on);
      passes = kept.passes ∙ sym (not_of_the_flow-push taken message true (is_flow_by_number m message number is) ∙ append-nil (not_of_the_flow taken));
    }

-- a message without a number was passed on
pub is_kept_unnumbered : (m : ℕ) (state : FilterState) (taken accepted others : List (List ℕ)) (message : List ℕ) →
    number_in m message ≡ None → IsKept m state taken accepted others →
    IsKept m state (taken ++ message ∷ []) accepted (others ++ message ∷ [])
is_kept_unnumbered m state taken accepted others message is kept =
    let on : verdict_on m (progress m taken) message ≡ None = ap (option_map (judgement m (progress m taken))) is in
    record {
      modulus = kept.modulus;
      is_state = subst (IsStateOf state) (sym (progress-push m taken message None on)) kept.is_state;
      accepts = kept.accepts ∙ sym (accepted_list-push m taken message None on ∙ append-nil (accepted_list m taken));
      passes = ap (λ (xs : List (List ℕ)). xs ++ message ∷ []) kept.passes ∙ sym (not_of_the_flow-push taken message false (apart_by_number m message is));
    }
