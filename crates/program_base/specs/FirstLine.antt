-- SPDX-License-Identifier: MIT OR Apache-2.0
-- The first line of a script.
use Rattle.std.specs.Prelude.{◌==◌, ℕ, if◌then◌else◌, List, [], ◌∷◌}

-- `first_line`: the octets before the first line feed; `behind_line`: the octets after it
abbrev pub first_line : List ℕ → List ℕ
first_line [] = []
first_line (octet ∷ octets) = if octet == 10 then [] else octet ∷ first_line octets

abbrev pub behind_line : List ℕ → List ℕ
behind_line [] = []
behind_line (octet ∷ octets) = if octet == 10 then octets else behind_line octets
