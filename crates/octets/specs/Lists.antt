-- SPDX-License-Identifier: MIT OR Apache-2.0
-- Definitions on lists.
use Rattle.std.specs.Prelude.{◌≡◌, List, ◌++◌}

-- xs is a prefix of ys
abbrev pub IsPrefix : {X : Type 0} → List X → List X → Type 0
IsPrefix {X} xs ys = (rest : List X) × (xs ++ rest ≡ ys)
