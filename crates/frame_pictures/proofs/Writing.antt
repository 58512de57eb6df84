-- SPDX-License-Identifier: MIT OR Apache-2.0
-- Lemmas: octets that are appended in parts.
use Rattle.std.proofs.Common.{◌≡◌, ℕ, List, ◌++◌, Result, Ok, Err, OnOk}
use Rattle.std.proofs.lemmas.List.{append_assoc}

-- three parts are appended
pub three_parts : {X E : Type 0} (result : Result X E) (old one two new a b c : List ℕ)
    → one ≡ old ++ a → two ≡ one ++ b → OnOk result (new ≡ two ++ c) → OnOk result (new ≡ old ++ (a ++ b ++ c))
three_parts (Ok x) old one two new a b c first second last = rw (last, second, first) (simp append_assoc)
three_parts (Err e) old one two new a b c first second last = last

-- two parts are appended
pub two_parts : {X E : Type 0} (result : Result X E) (old one new a b : List ℕ)
    → one ≡ old ++ a → OnOk result (new ≡ one ++ b) → OnOk result (new ≡ old ++ (a ++ b))
two_parts (Ok x) old one new a b first last = rw (last, first) (simp append_assoc)
two_parts (Err e) old one new a b first last = last
