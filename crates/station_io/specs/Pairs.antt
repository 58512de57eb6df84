-- SPDX-License-Identifier: MIT OR Apache-2.0
-- Two lists combined place by place.
use Rattle.std.specs.Prelude.{List, [], ◌∷◌}

module _ {X Y Z : Type 0} where
  -- combines the two lists place by place, as far as the shorter one reaches
  abbrev pub paired : (X → Y → Z) → List X → List Y → List Z
  paired f (x ∷ xs) (y ∷ ys) = f x y ∷ paired f xs ys
  paired f _ _ = []
