-- SPDX-License-Identifier: MIT OR Apache-2.0
-- The next sequence numbers as a list with an entry for each way. The number of a way without an
-- entry is 1.
use Rattle.std.specs.Prelude.{◌≡◌, ℕ, ◌+◌, ◌%◌, ◌==◌, if◌then◌else◌, List, slice_get}
use Rattle.std.specs.Prelude.{unwrap_or}
use Rattle.frame_pictures.specs.Capture.{next_number}
use Rattle.frame_pictures.specs.declared.link_frame.LinkFrame.{LinkFrame}

abbrev pub number_at : List ℕ → ℕ → ℕ
number_at numbers way = unwrap_or (slice_get numbers way) 1

-- The number of the way `moved` grew by `octets`, modulo 2^32; the numbers of all other ways are
-- unchanged.
abbrev pub Moves : List ℕ → List ℕ → ℕ → ℕ → Type 0
Moves old new moved octets =
    (way : ℕ) → number_at new way
    ≡ (if moved == way then (number_at old way + octets) % 4294967296 else number_at old way)

-- `numbers` are the next sequence numbers after the frames `before`.
abbrev pub AreNext : List LinkFrame → List ℕ → Type 0
AreNext before numbers = (way : ℕ) → number_at numbers way ≡ next_number way before
