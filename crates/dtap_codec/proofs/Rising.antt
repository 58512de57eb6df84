-- SPDX-License-Identifier: MIT OR Apache-2.0
-- Lemmas on rising places, over plain lists and for any modulus m.
use Rattle.std.proofs.Common.{◌≡◌, ℕ, ◌+◌, ◌%◌, Some, List, [], ◌∷◌, ◌++◌, length, take, refl, sym, ap, ◌∙◌, subst, arith, slice_get, inl, inr, length-append, append_assoc}
use Rattle.std.proofs.lemmas.Bool.{cases_Bool, cond-true, cond-false}
use Rattle.std.proofs.lemmas.List.{take_more, append-nil}
use Rattle.std.proofs.lemmas.Option.{slice_get_within, get_or_from_slice_get}
use Rattle.std.specs.Prelude.{filter}
use Rattle.octets.proofs.ListLemmas.{slice_get-append, slice_get-append_seam}
use Rattle.dtap_codec.specs.Message.{is_flow_message}
use Rattle.dtap_codec.specs.Number.{with_number}
use Rattle.dtap_codec.specs.Places.{with_numbers_from, IsClear, AreClear, Carries, Rise}
use Rattle.dtap_codec.specs.Places.Rise.{over, other, next, again}

-- the messages up to a place, and the one there, are those up to the next place
pub take_next : {m k : ℕ} {sent : List (List ℕ)} {x : List ℕ} (c : Carries m sent k x) → take (k + 1) sent ≡ take k sent ++ c.message ∷ []
take_next {m} {k} {sent} c =
    take_more sent k [] (slice_get_within sent k c.message c.is_sent) ∙ ap (λ y. take k sent ++ y ∷ []) (get_or_from_slice_get sent k c.message [] c.is_sent)

-- a message remains at its place when more are sent
pub Carries-grow : {m k : ℕ} {sent : List (List ℕ)} {x : List ℕ} (more : List (List ℕ)) → Carries m sent k x → Carries m (sent ++ more) k x
Carries-grow {k} {sent} more c = record {
  message = c.message;
  is_sent = slice_get-append sent more k c.message c.is_sent;
  is_clear = c.is_clear;
  carries = c.carries;
}

-- the places are unchanged when more is sent
pub Rise-grow : {m : ℕ} {sent : List (List ℕ)} (more : List (List ℕ)) {n k : ℕ} {xs : List (List ℕ)} →
    Rise m sent n xs k → Rise m (sent ++ more) n xs k
Rise-grow more (over n) = over n
Rise-grow more (other flow rise) = other flow (Rise-grow more rise)
Rise-grow more (next c rise) = next (Carries-grow more c) (Rise-grow more rise)
Rise-grow more (again e c rise) = again e (Carries-grow more c) (Rise-grow more rise)

-- a list that continues where another ended rises with it
pub Rise-append : {m j : ℕ} {sent : List (List ℕ)} (ys : List (List ℕ)) {n k : ℕ} {xs : List (List ℕ)} →
    Rise m sent n xs k → Rise m sent k ys j → Rise m sent n (xs ++ ys) j
Rise-append ys (over n) later = later
Rise-append ys (other flow rise) later = other flow (Rise-append ys rise later)
Rise-append ys (next c rise) later = next c (Rise-append ys rise later)
Rise-append ys (again e c rise) later = again e c (Rise-append ys rise later)

-- a list that rises is cut into two that rise, the second from where the first ends
pub Rise-cut : {m : ℕ} {sent : List (List ℕ)} (xs ys : List (List ℕ)) {n k : ℕ} → Rise m sent n (xs ++ ys) k →
    (j : ℕ) × Rise m sent n xs j × Rise m sent j ys k
Rise-cut [] ys {n} rise = (n, over n, rise)
Rise-cut (x ∷ xs) ys (other flow rise) = let cut = Rise-cut xs ys rise in (cut.0, other flow cut.1, cut.2)
Rise-cut (x ∷ xs) ys (next c rise) = let cut = Rise-cut xs ys rise in (cut.0, next c cut.1, cut.2)
Rise-cut (x ∷ xs) ys (again e c rise) = let cut = Rise-cut xs ys rise in (cut.0, again e c cut.1, cut.2)

-- Where the messages of the flow in xs are those sent after the first ones, each with its number,
-- their places rise to the end of the sent list.
pub Rise-with_numbers_from : (m : ℕ) (sent : List (List ℕ)) (xs before after : List (List ℕ)) (n : ℕ) →
    before ++ after ≡ sent → length before ≡ n → AreClear after →
    filter is_flow_message xs ≡ with_numbers_from m n after → Rise m sent n xs (length sent)
Rise-with_numbers_from m sent [] before [] n split place clear is =
    let end : n ≡ length sent = omega (arith, ap length split, length-append before []) in
    subst (λ (k : ℕ). Rise m sent n [] k) end (over n)
Rise-with_numbers_from m sent [] before (y ∷ ys) n split place clear is = cc
Rise-with_numbers_from m sent (x ∷ xs) before [] n split place clear is =
    elim (cases_Bool (is_flow_message x)) [
      | inl flow ↦ let none : x ∷ filter is_flow_message xs ≡ [] = sym (cond-true (is_flow_message x) _ _ flow) ∙ is in cc
      | inr flow ↦ other flow (Rise-with_numbers_from m sent xs before [] n split place clear (sym (cond-false (is_flow_message x) _ _ flow) ∙ is))
    ]
Rise-with_numbers_from m sent (x ∷ xs) before (y ∷ ys) n split place clear is =
    elim (cases_Bool (is_flow_message x)) [
      | inl flow ↦
          let first : x ∷ filter is_flow_message xs ≡ with_number (n % m) y ∷ with_numbers_from m (n + 1) ys = sym (cond-true (is_flow_message x) _ _ flow) ∙ is in
          let here : slice_get sent n ≡ Some y = ap (λ (list : List (List ℕ)). slice_get list n) (sym split) ∙ ap (λ (k : ℕ). slice_get (before ++ y ∷ ys) k) (sym place) ∙ slice_get-append_seam before y ys in
          let regrouped : (before ++ y ∷ []) ++ ys ≡ sent = append_assoc before (y ∷ []) ys ∙ split in
          let longer : length (before ++ y ∷ []) ≡ n + 1 = length-append before (y ∷ []) ∙ ap (λ (k : ℕ). k + 1) place in
          next (record { message = y; is_sent = here; is_clear = clear.0; carries = cc }) (Rise-with_numbers_from m sent xs (before ++ y ∷ []) ys (n + 1) regrouped longer clear.1 cc)
      | inr flow ↦ other flow (Rise-with_numbers_from m sent xs before (y ∷ ys) n split place clear (sym (cond-false (is_flow_message x) _ _ flow) ∙ is))
    ]

-- the front of a list that rises
pub Rise-front : {m : ℕ} {sent : List (List ℕ)} (xs ys : List (List ℕ)) {n k : ℕ} → Rise m sent n (xs ++ ys) k →
    (j : ℕ) × Rise m sent n xs j
Rise-front xs ys rise = let cut = Rise-cut xs ys rise in (cut.0, cut.1)

-- a message may arrive twice
pub Rise-twice : {m : ℕ} {sent : List (List ℕ)} {n k : ℕ} {x : List ℕ} {ys : List (List ℕ)} → Rise m sent n (x ∷ ys) k →
    Rise m sent n (x ∷ x ∷ ys) k
Rise-twice (other flow rise) = other flow (other flow rise)
Rise-twice (next c rise) = next c (again refl c rise)
Rise-twice (again e c rise) = again e c (again e c rise)

-- so may one behind others
pub Rise-twice_behind : {m : ℕ} {sent : List (List ℕ)} (xs : List (List ℕ)) (x : List ℕ)
    (ys : List (List ℕ)) {n k : ℕ} → Rise m sent n (xs ++ x ∷ ys) k → Rise m sent n (xs ++ x ∷ x ∷ ys) k
Rise-twice_behind [] x ys rise = Rise-twice rise
Rise-twice_behind (y ∷ xs) x ys (other flow rise) = other flow (Rise-twice_behind xs x ys rise)
Rise-twice_behind (y ∷ xs) x ys (next c rise) = next c (Rise-twice_behind xs x ys rise)
Rise-twice_behind (y ∷ xs) x ys (again e c rise) = again e c (Rise-twice_behind xs x ys rise)

-- what is behind a message may be another list
Rise-behind : {m : ℕ} {sent : List (List ℕ)} {n k : ℕ} {x : List ℕ} {ys : List (List ℕ)} (xs : List (List ℕ)) →
    ((p : ℕ) → Rise m sent p ys k → Rise m sent p xs k) → Rise m sent n (x ∷ ys) k → Rise m sent n (x ∷ xs) k
Rise-behind {n} xs behind (other flow rise) = other flow (behind n rise)
Rise-behind {n} xs behind (next c rise) = next c (behind (n + 1) rise)
Rise-behind {n} xs behind (again e c rise) = again e c (behind n rise)

-- where the messages of the flow rise, messages of other protocols may be among them
pub Rise-of_flow : {m : ℕ} {sent : List (List ℕ)} (xs : List (List ℕ)) {n k : ℕ} →
    Rise m sent n (filter is_flow_message xs) k → Rise m sent n xs k
Rise-of_flow [] rise = rise
Rise-of_flow {m} {sent} (x ∷ xs) {n} {k} rise =
    elim (cases_Bool (is_flow_message x)) [
      | inl flow ↦
          Rise-behind xs (λ p. Rise-of_flow xs)
          (subst (λ (ys : List (List ℕ)). Rise m sent n ys k) (cond-true (is_flow_message x) (x ∷ filter is_flow_message xs) (filter is_flow_message xs) flow) rise)
      | inr flow ↦
          other flow (Rise-of_flow xs (subst (λ (ys : List (List ℕ)). Rise m sent n ys k) (cond-false (is_flow_message x) (x ∷ filter is_flow_message xs) (filter is_flow_message xs) flow) rise))
    ]

-- one more is sent, and is put last with the number of its place
pub Rise-push : {m n : ℕ} {sent xs : List (List ℕ)} (message : List ℕ) → IsClear message →
    Rise m sent n xs (length sent) →
    Rise m (sent ++ message ∷ []) n (xs ++ with_number (length sent % m) message ∷ []) (length (sent ++ message ∷ []))
Rise-push {m} {n} {sent} {xs} message clear rise =
    let number : List ℕ = with_number (length sent % m) message in
    let end : length sent + 1 ≡ length (sent ++ message ∷ []) = sym (length-append sent (message ∷ [])) in
    let here : Carries m (sent ++ message ∷ []) (length sent) number = record { message = message; is_sent = slice_get-append_seam sent message []; is_clear = clear; carries = refl } in
    Rise-append (number ∷ []) (Rise-grow (message ∷ []) rise) (next here (subst (λ (k : ℕ). Rise m (sent ++ message ∷ []) (length sent + 1) [] k) end (over (length sent + 1))))

-- what was taken and is still on its way may arrive again
pub Rise-flow_twice : {m : ℕ} {sent : List (List ℕ)} (xs : List (List ℕ)) (x : List ℕ) (ys : List (List ℕ)) {n k : ℕ} →
    Rise m sent n (xs ++ filter is_flow_message (x ∷ ys)) k →
    Rise m sent n ((xs ++ filter is_flow_message (x ∷ [])) ++ filter is_flow_message (x ∷ ys)) k
Rise-flow_twice {m} {sent} xs x ys {n} {k} rise =
    let after : List (List ℕ) = filter is_flow_message ys in
    elim (cases_Bool (is_flow_message x)) [
      | inl flow ↦
          let one : filter is_flow_message (x ∷ ys) ≡ x ∷ after = cond-true (is_flow_message x) (x ∷ after) after flow in
          let alone : filter is_flow_message (x ∷ []) ≡ x ∷ [] = cond-true (is_flow_message x) (x ∷ []) [] flow in
          let twice : (xs ++ filter is_flow_message (x ∷ [])) ++ filter is_flow_message (x ∷ ys) ≡ xs ++ x ∷ x ∷ after = rw (one, alone) (append_assoc xs (x ∷ []) (x ∷ after)) in
          subst (λ (list : List (List ℕ)). Rise m sent n list k) (sym twice) (Rise-twice_behind xs x after (subst (λ (list : List (List ℕ)). Rise m sent n (xs ++ list) k) one rise))
      | inr flow ↦
          let none : filter is_flow_message (x ∷ []) ≡ [] = cond-false (is_flow_message x) (x ∷ []) [] flow in
          let same : (xs ++ filter is_flow_message (x ∷ [])) ++ filter is_flow_message (x ∷ ys) ≡ xs ++ filter is_flow_message (x ∷ ys) = rw none (ap (λ (list : List (List ℕ)). list ++ filter is_flow_message (x ∷ ys)) (append-nil xs)) in
          subst (λ (list : List (List ℕ)). Rise m sent n list k) (sym same) rise
    ]
