-- SPDX-License-Identifier: MIT OR Apache-2.0
-- The head of a part of a run.
use Rattle.std.specs.Prelude.{ℕ, ◌-◌, Bool, List, [], ◌++◌, length, drop, codes, decimal}
use Rattle.std.specs.Prelude.{Option, Some, None}
use Rattle.std.specs.Str.{bytes_eq}

-- the first piece of a head, and the octets of the others, in order
pub record HeadState : Type 0 where
  pub line : Option (List ℕ)
  pub settings : List ℕ

abbrev pub no_head : HeadState
no_head = record { line = None; settings = [] }

abbrev pub joined : Option (List ℕ) → List ℕ → List ℕ → HeadState
joined None settings piece = record { line = Some piece; settings = settings }
joined (Some line) settings piece = record { line = Some line; settings = settings ++ piece }

-- with one more piece
abbrev pub with_piece : HeadState → List ℕ → HeadState
with_piece h piece = joined h.line h.settings piece

-- how the line of the part with this number ends
abbrev pub part_text : ℕ → List ℕ
part_text number = codes " part " ++ decimal number

abbrev pub is_part : ℕ → List ℕ → Bool
is_part number line =
    bytes_eq (drop (length line - length (part_text number)) line) (part_text number)
