-- SPDX-License-Identifier: MIT OR Apache-2.0
-- The accepted list of messages whose places rise.
use Rattle.std.proofs.Common.{◌≡◌, ℕ, ◌+◌, ◌-◌, ◌%◌, ◌<◌, ◌≤◌, false, Option, Some, None, List, [], ◌∷◌, ◌++◌, take, refl, sym, ap, ◌∙◌, arith, append_assoc, nat_eq, option_map, eq-eqb, inl, inr}
use Rattle.std.proofs.Math.Nat.{mod-lt, add-mod_right, mod-add-mod, mod_self, mod-eq_of_lt, eq-or-lt_of_le}
use Rattle.std.proofs.lemmas.List.{append-nil}
use Rattle.std.proofs.lemmas.Bool.{cond-true, cond-false, ne_eqb}
use Rattle.dtap_codec.specs.Message.{is_flow_message}
use Rattle.dtap_codec.specs.Number.{number_in, without_number}
use Rattle.dtap_codec.specs.Places.{Carries, Rise}
use Rattle.dtap_codec.specs.Places.Rise.{over, other, next, again}
use Rattle.dtap_codec.proofs.Numbers.{number_in-with_number, number_in-other, without_number-with_number}
use Rattle.dtap_codec.proofs.Rising.{take_next}
use Rattle.nsd_filter.specs.Judgement.{judgement}
use Rattle.nsd_filter.specs.AcceptedList.{verdict_on, delivery_of, progress_past, accepted_list_from, progress_from}
use Rattle.nsd_filter.specs.declared.verdict.Verdict.{Verdict}
use Rattle.nsd_filter.specs.declared.verdict.Verdict.TheVariants.{Accept, Duplicate}

-- a message that isn't of the flow has no verdict
pub verdict_on-other : (m : ℕ) (progress : Option ℕ) (x : List ℕ) → is_flow_message x ≡ false → verdict_on m progress x ≡ None
verdict_on-other m progress x apart = ap (option_map (judgement m progress)) (number_in-other m x apart)

-- the verdict on a message at a place is that on the place's number
verdict_on-carried : {m p : ℕ} {sent : List (List ℕ)} {x : List ℕ} (progress : Option ℕ) → 2 ≤ m → Carries m sent p x →
    verdict_on m progress x ≡ Some (judgement m progress (p % m))
verdict_on-carried {m} {p} progress two c =
    ap (option_map (judgement m progress)) (ap (number_in m) c.carries ∙ number_in-with_number m (p % m) c.message (mod-lt p (omega arith)) c.is_clear.is_flow)

-- two places next to each other have different numbers
mod_suc_differs : (m p : ℕ) → 2 ≤ m → p % m ≡ (p + 1) % m → ⊥
mod_suc_differs m p two same =
    let rest : p % m < m = mod-lt p (omega arith) in
    let step : (p % m + 1) % m ≡ (p + 1) % m = mod-add-mod p m 1 in
    let within : p % m + 1 ≤ m = omega arith in
    elim (eq-or-lt_of_le within) [
      | inl full ↦
          let zero_next : (p % m + 1) % m ≡ 0 = ap (λ (n : ℕ). n % m) full ∙ mod_self m in
          absurd (omega arith)
      | inr below ↦
          let more : (p % m + 1) % m ≡ p % m + 1 = mod-eq_of_lt below in
          absurd (omega arith)
    ]

-- the message at the next place is accepted
pub verdict_on-next : {m n : ℕ} {sent : List (List ℕ)} {x : List ℕ} → 2 ≤ m → Carries m sent n x → verdict_on m (Some n) x ≡ Some Accept
verdict_on-next {m} {n} two c = verdict_on-carried (Some n) two c ∙ ap Some (cond-true (nat_eq (n % m) (n % m)) _ _ (eq-eqb (n % m) (n % m) refl))

-- the message at the place before the next one is a duplicate
pub verdict_on-again : {m n p : ℕ} {sent : List (List ℕ)} {x : List ℕ} → 2 ≤ m → n ≡ p + 1 → Carries m sent p x →
    verdict_on m (Some n) x ≡ Some Duplicate
verdict_on-again {m} {n} {p} two e c =
    let differs : nat_eq (p % m) (n % m) ≡ false = ne_eqb (p % m) (n % m) (λ same. mod_suc_differs m p two (same ∙ ap (λ (k : ℕ). k % m) e)) in
    let sum : n + (m - 1) ≡ p + m = omega arith in
    let before : p % m ≡ (n + (m - 1)) % m = sym (ap (λ (k : ℕ). k % m) sum ∙ add-mod_right p m) in
    verdict_on-carried (Some n) two c ∙ ap Some (cond-false (nat_eq (p % m) (n % m)) _ _ differs ∙ cond-true (nat_eq (p % m) ((n + (m - 1)) % m)) _ _ (eq-eqb (p % m) ((n + (m - 1)) % m) before))

-- what is accepted of a message and of those behind it, by the verdict on it
accepted_list_from-by : (m n : ℕ) (x : List ℕ) (xs : List (List ℕ)) (v : Option Verdict) → verdict_on m (Some n) x ≡ v →
    accepted_list_from m (Some n) (x ∷ xs) ≡ delivery_of v x ++ accepted_list_from m (progress_past v (Some n)) xs
accepted_list_from-by m n x xs v is = ap (λ (v : Option Verdict). delivery_of v x ++ accepted_list_from m (progress_past v (Some n)) xs) is

progress_from-by : (m n : ℕ) (x : List ℕ) (xs : List (List ℕ)) (v : Option Verdict) → verdict_on m (Some n) x ≡ v →
    progress_from m (Some n) (x ∷ xs) ≡ progress_from m (progress_past v (Some n)) xs
progress_from-by m n x xs v is = ap (λ (v : Option Verdict). progress_from m (progress_past v (Some n)) xs) is

-- the number has no part in what is given up
carried : {m k : ℕ} {sent : List (List ℕ)} {x : List ℕ} (c : Carries m sent k x) → without_number x ≡ c.message
carried {m} {k} c = ap without_number c.carries ∙ without_number-with_number (k % m) c.message ∙ c.is_clear.cleared

-- If the places of messages rise from n to k, the messages sent between these places are accepted.
pub accepted_list_from-rise : {m : ℕ} {sent : List (List ℕ)} {n k : ℕ} {xs : List (List ℕ)} → 2 ≤ m →
    Rise m sent n xs k → take n sent ++ accepted_list_from m (Some n) xs ≡ take k sent
accepted_list_from-rise {sent} two (over n) = append-nil (take n sent)
accepted_list_from-rise {m} {sent} {n} two (other {x} {xs} flow rise) =
    ap (λ (more : List (List ℕ)). take n sent ++ more) (accepted_list_from-by m n x xs None (verdict_on-other m (Some n) x flow)) ∙ accepted_list_from-rise two rise
accepted_list_from-rise {m} {sent} {n} two (next {x} {xs} c rise) =
    ap (λ (more : List (List ℕ)). take n sent ++ more) (accepted_list_from-by m n x xs (Some Accept) (verdict_on-next two c))
    ∙ sym (append_assoc (take n sent) (without_number x ∷ []) (accepted_list_from m (Some (n + 1)) xs))
    ∙ ap (λ (front : List (List ℕ)). front ++ accepted_list_from m (Some (n + 1)) xs) (ap (λ (y : List ℕ). take n sent ++ y ∷ []) (carried c) ∙ sym (take_next c))
    ∙ accepted_list_from-rise two rise
accepted_list_from-rise {m} {sent} {n} two (again {x} {xs} e c rise) =
    ap (λ (more : List (List ℕ)). take n sent ++ more) (accepted_list_from-by m n x xs (Some Duplicate) (verdict_on-again two e c)) ∙ accepted_list_from-rise two rise

-- no gap is found in them
pub progress_from-rise : {m : ℕ} {sent : List (List ℕ)} {n k : ℕ} {xs : List (List ℕ)} → 2 ≤ m → Rise m sent n xs k →
    progress_from m (Some n) xs ≡ Some k
progress_from-rise two (over n) = refl
progress_from-rise {m} {n} two (other {x} {xs} flow rise) = progress_from-by m n x xs None (verdict_on-other m (Some n) x flow) ∙ progress_from-rise two rise
progress_from-rise {m} {n} two (next {x} {xs} c rise) = progress_from-by m n x xs (Some Accept) (verdict_on-next two c) ∙ progress_from-rise two rise
progress_from-rise {m} {n} two (again {x} {xs} e c rise) = progress_from-by m n x xs (Some Duplicate) (verdict_on-again two e c) ∙ progress_from-rise two rise

-- what is accepted of two lists, one behind the other
pub accepted_list_from-append : (m : ℕ) (p : Option ℕ) (xs ys : List (List ℕ)) →
    accepted_list_from m p (xs ++ ys) ≡ accepted_list_from m p xs ++ accepted_list_from m (progress_from m p xs) ys
accepted_list_from-append m p [] ys = refl
accepted_list_from-append m p (x ∷ xs) ys =
    let verdict : Option Verdict = verdict_on m p x in
    ap (λ (more : List (List ℕ)). delivery_of verdict x ++ more) (accepted_list_from-append m (progress_past verdict p) xs ys)
    ∙ sym (append_assoc (delivery_of verdict x) (accepted_list_from m (progress_past verdict p) xs) (accepted_list_from m (progress_from m (progress_past verdict p) xs) ys))

-- the progress of the flow after two lists, one behind the other
pub progress_from-append : (m : ℕ) (p : Option ℕ) (xs ys : List (List ℕ)) →
    progress_from m p (xs ++ ys) ≡ progress_from m (progress_from m p xs) ys
progress_from-append m p [] ys = refl
progress_from-append m p (x ∷ xs) ys = progress_from-append m (progress_past (verdict_on m p x) p) xs ys
