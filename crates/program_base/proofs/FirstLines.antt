-- SPDX-License-Identifier: MIT OR Apache-2.0
-- The first line ends at the first line feed; without a line feed it is the whole text.
use Rattle.std.proofs.Common.{◌≡◌, ◌≢◌, ℕ, zero, suc, ◌+◌, ◌<◌, ◌==◌, Bool, true, false, if◌then◌else◌, List, [], ◌∷◌}
use Rattle.std.proofs.Common.{get_or, length, take, drop, Option, Some, None, refl, sym, ap, subst, arith, eq-eqb}
use Rattle.std.proofs.lemmas.Bool.{eqb-true}
use Rattle.memchr.specs.Find.{IsFirstByte, is_byte}
use Rattle.program_base.specs.FirstLine.{behind_line, first_line}

line_by : (xs : List ℕ) (n : ℕ) → n < length xs → ((k : ℕ) → k < n → get_or xs k 0 ≢ 10) → get_or xs n 0 ≡ 10
    → (take n xs ≡ first_line xs) × (drop (suc n) xs ≡ behind_line xs)
line_by [] n less none feed = absurd (omega arith)
line_by (x ∷ xs) zero less none feed = (
  ap (λ (b : Bool). if b then [] else x ∷ first_line xs) (sym (eq-eqb x 10 feed)),
  ap (λ (b : Bool). if b then xs else behind_line xs) (sym (eq-eqb x 10 feed)),
)
line_by (x ∷ xs) (suc n) less none feed =
    let others = line_by xs n (omega arith) (λ k lt. none (suc k) (omega (arith, lt))) feed in
    by_test (x == 10) refl others
  where
    by_test : (b : Bool) → (x == 10) ≡ b → (take n xs ≡ first_line xs) × (drop (suc n) xs ≡ behind_line xs)
        → (x ∷ take n xs ≡ (if b then [] else x ∷ first_line xs)) × (drop (suc n) xs ≡ (if b then xs else behind_line xs))
    by_test true is others = absurd (none 0 (omega arith) (eqb-true x 10 is))
    by_test false is others = (ap (λ (ys : List ℕ). x ∷ ys) others.0, others.1)

pub line_found : (xs : List ℕ) (n : ℕ) → IsFirstByte (is_byte 10) xs (Some n)
    → (take n xs ≡ first_line xs) × (drop (n + 1) xs ≡ behind_line xs)
line_found xs n found =
    let is = line_by xs n found.0.high (λ k lt feed. found.0.before k (omega arith) lt (eq-eqb (get_or xs k 0) 10 feed))
    (eqb-true (get_or xs n 0) 10 found.1) in
    let next : suc n ≡ n + 1 = omega arith in
    (is.0, subst (λ (k : ℕ). drop k xs ≡ behind_line xs) next is.1)

no_line_by : (xs : List ℕ) → ((k : ℕ) → k < length xs → get_or xs k 0 ≢ 10) → (xs ≡ first_line xs) × ([] ≡ behind_line xs)
no_line_by [] none = (refl, refl)
no_line_by (x ∷ xs) none =
    let others = no_line_by xs (λ k lt. none (suc k) (omega (arith, lt))) in
    by_test (x == 10) refl others
  where
    by_test : (b : Bool) → (x == 10) ≡ b → (xs ≡ first_line xs) × ([] ≡ behind_line xs)
        → (x ∷ xs ≡ (if b then [] else x ∷ first_line xs)) × ([] ≡ (if b then xs else behind_line xs))
    by_test true is others = absurd (none 0 (omega arith) (eqb-true x 10 is))
    by_test false is others = (ap (λ (ys : List ℕ). x ∷ ys) others.0, others.1)

pub no_line : (xs : List ℕ) → IsFirstByte (is_byte 10) xs None → (xs ≡ first_line xs) × ([] ≡ behind_line xs)
no_line xs none = no_line_by xs (λ k lt feed. none k (omega arith) lt (eq-eqb (get_or xs k 0) 10 feed))
