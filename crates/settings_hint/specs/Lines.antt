-- SPDX-License-Identifier: MIT OR Apache-2.0
-- Places in a text.
use Rattle.std.specs.Prelude.{ℕ, List, length, min, take}

-- The octets before this place, or all octets if the text is shorter.
abbrev pub octets_before : ℕ → List ℕ → List ℕ
octets_before place text = take (min place (length text)) text
