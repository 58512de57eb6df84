-- SPDX-License-Identifier: MIT OR Apache-2.0
-- A ring keeps what it has room for.
use Rattle.std.proofs.Common.{◌≡◌, ℕ, ◌≤◌, ◌-◌, ◌+◌, List, [], ◌++◌, length, drop, ap, subst, ◌∙◌, rules}
use Rattle.std.proofs.lemmas.List.{length-append}
use Rattle.circular_buffer.specs.Buffer.{keep_last}

keeps_all : {X : Type 0} (n : ℕ) (xs : List X) → length xs ≤ n → keep_last n xs ≡ xs
keeps_all n xs fits = ap (λ k. drop k xs) (none (length xs) n fits) where
  none : (k n : ℕ) → k ≤ n → k - n ≡ 0
  none k n fits = search rules

-- two parts, one behind the other
pub keeps_both : {X : Type 0} (n : ℕ) (xs ys : List X) → length (xs ++ ys) ≤ n → keep_last n (keep_last n ([] ++ xs) ++ ys) ≡ xs ++ ys
keeps_both n xs ys fits = ap (λ k. keep_last n (k ++ ys)) (keeps_all n xs (front (length xs) (length ys) n (subst (λ k. k ≤ n) (length-append xs ys) fits))) ∙ keeps_all n (xs ++ ys) fits where
  front : (a b n : ℕ) → a + b ≤ n → a ≤ n
  front a b n h = search rules
