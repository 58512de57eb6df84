-- SPDX-License-Identifier: MIT OR Apache-2.0
-- A tab replaces the first octet of a column.
use Rattle.std.proofs.Common.{◌≡◌, ℕ, ◌<◌, List, [], ◌∷◌, ◌++◌, length, drop, slice_set, refl, ap, ◌∙◌, arith}

first_set : (old text : List ℕ) → length old < length (old ++ text) → slice_set (old ++ text) (length old) 9 ≡ old ++ 9 ∷ drop 1 text
first_set [] [] below = absurd (omega arith)
first_set [] (x ∷ xs) below = refl
first_set (y ∷ ys) text below = ap (λ (zs : List ℕ). y ∷ zs) (first_set ys text (omega arith))

pub tab_first : (old text items : List ℕ) (start : ℕ) → items ≡ old ++ text → start ≡ length old → start < length items
    → slice_set items start 9 ≡ old ++ 9 ∷ drop 1 text
tab_first old text items start is at below =
    let size : length items ≡ length (old ++ text) = ap length is in
    ap (λ (xs : List ℕ). slice_set xs start 9) is ∙ ap (λ (n : ℕ). slice_set (old ++ text) n 9) at ∙ first_set old text (omega arith)
