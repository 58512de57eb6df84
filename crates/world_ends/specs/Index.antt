-- SPDX-License-Identifier: MIT OR Apache-2.0
-- The index of mobiles by number.
use Rattle.std.specs.Prelude.{◌≡◌, ℕ, ◌<◌, List, slice_get, Option, Some}
use Rattle.std.specs.List.{position}
use Rattle.world_model.specs.World.{Mobile, has_number}

-- for each number below 256, `places` has the place of the first mobile with this number, or None
-- if no mobile has it
abbrev pub IsIndex : List (Option ℕ) → List Mobile → Type 0
IsIndex places mobiles =
    (number : ℕ) → number < 256
    → slice_get places number ≡ Some (position (has_number number) mobiles)
