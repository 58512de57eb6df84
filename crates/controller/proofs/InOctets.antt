-- SPDX-License-Identifier: MIT OR Apache-2.0
-- A loop over a list that proves a fact of each element: all elements have it if the remaining ones
-- do.
use Rattle.std.proofs.Common.{◌≡◌, ℕ, zero, suc, ◌+◌, ◌<◌, ◌≤◌, List, [], ◌∷◌, length, drop, get_or, sym, subst, arith, add-one, drop-cons}
use Rattle.std.specs.List.{AllByRecursion}

pub one_more : {X : Type 0} (P : X → Type 0) (xs : List X) (i : ℕ) (x : X) → i < length xs → x ≡ get_or xs i x → P x
    → (AllByRecursion P (drop i xs) → AllByRecursion P xs) → AllByRecursion P (drop (i + 1) xs) → AllByRecursion P xs
one_more P xs i x lt is holds so_far behind =
    so_far (subst (AllByRecursion P) (sym (drop-cons xs i x lt)) (subst P is holds, subst (λ (n : ℕ). AllByRecursion P (drop n xs)) (add-one i) behind))

pub none_left : {X : Type 0} (P : X → Type 0) (n : ℕ) (xs : List X) → length xs ≤ n → AllByRecursion P (drop n xs)
none_left P zero [] le = tt
none_left P zero (x ∷ xs) le = absurd (omega arith)
none_left P (suc n) [] le = tt
none_left P (suc n) (x ∷ xs) le = none_left P n xs (omega arith)
