-- SPDX-License-Identifier: MIT OR Apache-2.0
-- Which part of a text an output took, if writing succeeds and if writing fails.
use Rattle.std.specs.Prelude.{◌≡◌, ◌<◌, ℕ, List, [], ◌++◌, Option, Result, Ok, Err, length}
use Rattle.std.specs.Io.KnownBytes.{Appends}
use Rattle.program_io.specs.declared.output.Taken.{Taken}
use Rattle.program_io.specs.declared.output.Taken.TheVariants.{All, Nothing}

-- The output, if its contents are known, grew by a prefix of the text.
abbrev pub AppendsBeginning : Option (List ℕ) → Option (List ℕ) → List ℕ → Type 0
AppendsBeginning old new text = (written : List ℕ) × (unwritten : List ℕ)
    × (text ≡ written ++ unwritten) × Appends old new written

-- On success, the output took the whole text; on failure, it took a prefix of the text.
abbrev pub Puts : {X E : Type 0} → Result X E → Option (List ℕ) → Option (List ℕ) → List ℕ → Type 0
Puts (Ok done) old new text = Appends old new text
Puts (Err error) old new text = AppendsBeginning old new text

-- The output, if its contents are known, grew by a prefix of the text of at least one octet.
abbrev pub AppendsSome : Option (List ℕ) → Option (List ℕ) → List ℕ → Type 0
AppendsSome old new text = (written : List ℕ) × (unwritten : List ℕ)
    × (text ≡ written ++ unwritten) × (0 < length written) × Appends old new written

-- The octets that the output took: the whole text, or none of its octets.
abbrev pub taken_of : Taken → List ℕ → List ℕ
taken_of All text = text
taken_of (Nothing failure) text = []

-- On success, the output took the whole text or nothing, as `Taken` says. On failure, the output
-- took a prefix of at least one octet.
abbrev pub PutsAtOnce : {E : Type 0} → Result Taken E → Option (List ℕ) → Option (List ℕ)
    → List ℕ → Type 0
PutsAtOnce (Ok taken) old new text = Appends old new (taken_of taken text)
PutsAtOnce (Err error) old new text = AppendsSome old new text
