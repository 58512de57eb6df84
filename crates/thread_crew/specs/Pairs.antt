-- SPDX-License-Identifier: MIT OR Apache-2.0
-- A relation between the elements of two lists, place by place.
use Rattle.std.specs.Prelude.{◌≡◌, ℕ, List}
use mathlib.Core.Option.{some}
use lib.ListN.{get_elem?}

module _ {X Y : Type 0} where
  -- `F` holds of the elements at the same place of both lists, for each place that both lists have
  abbrev pub EachPair : (X → Y → Type 0) → List X → List Y → Type 0
  EachPair F xs ys = (at : ℕ) (x : X) (y : Y) → get_elem? xs at ≡ some x → get_elem? ys at ≡ some y
      → F x y
