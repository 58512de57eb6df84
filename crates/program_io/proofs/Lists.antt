-- SPDX-License-Identifier: MIT OR Apache-2.0
-- Lemmas on the rest of a list after its first elements.
use Rattle.std.proofs.Common.{◌≡◌, ℕ, ◌-◌, List, length, take, drop, arith}
use Rattle.std.proofs.lemmas.List.{length-drop, take_all}

-- as many as are left are all that is left
pub all_of : (xs : List ℕ) (k n : ℕ) → n ≡ length xs → take (n - k) (drop k xs) ≡ drop k xs
all_of xs k n is = take_all (n - k) (drop k xs) (omega (arith, is, length-drop k xs))
