-- SPDX-License-Identifier: MIT OR Apache-2.0
-- Fields of bits, one after the other, the high bit first.
use Rattle.std.specs.Prelude.{◌≡◌, ℕ, ◌+◌, ◌*◌, ◌^◌, ◌<◌, List, []}
use Rattle.std.specs.Prelude.{◌∷◌}

-- A field: its width in bits and its value.
pub record Field : Type 0 where
  pub width : ℕ
  pub value : ℕ

abbrev pub field : ℕ → ℕ → Field
field width value = record { width = width; value = value }

-- The total width of the fields.
abbrev pub width_of : List Field → ℕ
width_of [] = 0
width_of (f ∷ fs) = f.width + width_of fs

-- The number whose bits are those of the fields, one field after the other.
abbrev pub number_of : List Field → ℕ
number_of [] = 0
number_of (f ∷ fs) = f.value * 2 ^ width_of fs + number_of fs

-- Each value fits its width.
abbrev pub Fit : List Field → Type 0
Fit [] = Unit {0}
Fit (f ∷ fs) = (f.value < 2 ^ f.width) × Fit fs

-- A number of `many` bits begins with these fields, each of which fits its width. After the fields
-- `left` bits remain, which form the number `rest`.
pub record Begin (fs : List Field) (many number left rest : ℕ) : Type 0 where
  pub bits : left + width_of fs ≡ many
  pub writes : number ≡ number_of fs * 2 ^ left + rest
  pub fit : Fit fs
