-- SPDX-License-Identifier: MIT OR Apache-2.0
-- The bits of a 64-bit word, from a position on.
use Rattle.std.specs.Prelude.{◌≡◌, ℕ, ◌<◌, ◌≤◌}
use Rattle.std.specs.Int.{bit_at}

-- no bit is set from the position `from` up to, but without, the position `to`
abbrev pub HasNoneBetween : ℕ → ℕ → ℕ → Type 0
HasNoneBetween from to word = (place : ℕ) → from ≤ place → place < to → bit_at word place ≡ 0

-- no bit is set from the position `from` on
abbrev pub HasNoneSet : ℕ → ℕ → Type 0
HasNoneSet from word = HasNoneBetween from 64 word

-- `place` is the position of the first set bit from the position `from` on
abbrev pub IsFirstSet : ℕ → ℕ → ℕ → Type 0
IsFirstSet from word place =
    (from ≤ place) × (place < 64) × (bit_at word place ≡ 1) × HasNoneBetween from place word
