-- SPDX-License-Identifier: MIT OR Apache-2.0
-- The first item of a list, and the items after it.
use Rattle.std.specs.Prelude.{List, [], ◌∷◌, Option, Some, None}

abbrev pub first_in : {X : Type 0} → List X → Option X
first_in [] = None
first_in (first ∷ others) = Some first

-- the items after the first; the empty list if there is no first item
abbrev pub behind_first : {X : Type 0} → List X → List X
behind_first [] = []
behind_first (first ∷ others) = others
