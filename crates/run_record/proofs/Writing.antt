-- SPDX-License-Identifier: MIT OR Apache-2.0
-- Lemmas: octets that are appended in parts.
use Rattle.std.proofs.Common.{◌≡◌, ℕ, ◌+◌, List, ◌++◌, length, arith}
use Rattle.std.proofs.lemmas.List.{append_assoc, length-append}

-- four parts behind what was there
pub four_parts : (old one two three new a b c d : List ℕ) → one ≡ old ++ a → two ≡ one ++ b → three ≡ two ++ c → new ≡ three ++ d
    → new ≡ old ++ (a ++ b ++ (c ++ d))
four_parts old one two three new a b c d first second third last = rw (last, third, second, first) (simp append_assoc)

pub two_lengths : (first rest : List ℕ) → 40 + length first + length rest ≡ 40 + length (first ++ rest)
two_lengths first rest = omega (arith, length-append first rest)
