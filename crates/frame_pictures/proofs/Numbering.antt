-- SPDX-License-Identifier: MIT OR Apache-2.0
-- Lemmas: padding the next sequence numbers.
use Rattle.std.proofs.Common.{◌≡◌, ℕ, zero, suc, List, [], ◌∷◌, ◌++◌, refl}
use Rattle.frame_pictures.specs.NextNumbers.{number_at}

-- appending the entry 1 leaves each way's number unchanged
pub one_more : (numbers : List ℕ) (way : ℕ) → number_at (numbers ++ 1 ∷ []) way ≡ number_at numbers way
one_more [] zero = refl
one_more [] (suc way) = refl
one_more (number ∷ numbers) zero = refl
one_more (number ∷ numbers) (suc way) = one_more numbers way
