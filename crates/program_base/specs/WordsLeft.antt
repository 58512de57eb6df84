-- SPDX-License-Identifier: MIT OR Apache-2.0
-- The words of a line, with one space between two words.
use Rattle.std.specs.Prelude.{ℕ, ◌==◌, Bool, Option, Some, None, List, []}
use Rattle.std.specs.List.{slice_split}

abbrev pub is_space : ℕ → Bool
is_space octet = octet == 32

abbrev pub words_left : Option (List ℕ) → List (List ℕ)
words_left None = []
words_left (Some line) = slice_split is_space line
