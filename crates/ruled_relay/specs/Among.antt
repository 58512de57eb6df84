-- SPDX-License-Identifier: MIT OR Apache-2.0
-- A set of sources with one bit for each source, 64 bits to a word.
use Rattle.std.specs.Prelude.{◌≡◌, ◌≢◌, ℕ, ◌/◌, ◌%◌, ◌<◌, ◌≤◌, List, length, slice_index_or}
use Rattle.std.specs.Int.{bit_at}

-- 1 if the source is in the set, else 0
abbrev pub among : List ℕ → ℕ → ℕ
among words source = bit_at (slice_index_or words (source / 64) 0) (source % 64)

-- no source from `from` up to, but without, `to` is in the set
abbrev pub HasNoneFrom : ℕ → ℕ → List ℕ → Type 0
HasNoneFrom from to words =
    (source : ℕ) → from ≤ source → source < to → among words source ≡ 0

-- the source is in the set, if the set has room for it
abbrev pub IsAmong : ℕ → List ℕ → Type 0
IsAmong source words = source / 64 < length words → among words source ≡ 1

-- every other source is in the new set exactly if it was in the old set, and both sets have the
-- same number of words
abbrev pub OthersStay : ℕ → List ℕ → List ℕ → Type 0
OthersStay source old new = (length new ≡ length old)
    × ((other : ℕ) → other ≢ source → among new other ≡ among old other)
