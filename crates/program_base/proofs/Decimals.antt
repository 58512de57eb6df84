-- SPDX-License-Identifier: MIT OR Apache-2.0
-- The numbers of decimal digits.
use Rattle.std.proofs.Common.{ℕ, ◌+◌, ◌-◌, ◌*◌, ◌≤◌, List, [], ◌∷◌, arith}
use Rattle.program_base.specs.Words.{decimal_after}

-- digits make no number smaller
pub decimal_grows : (n : ℕ) (digits : List ℕ) → n ≤ decimal_after n digits
decimal_grows n [] = omega arith
decimal_grows n (digit ∷ digits) = let more = decimal_grows (10 * n + (digit - 48)) digits in omega (arith, more)
