-- SPDX-License-Identifier: MIT OR Apache-2.0
-- Reading an input to its end.
use Rattle.std.specs.Prelude.{◌≡◌, ◌≢◌, ℕ, List, Option, Result, Ok, Err}
use Rattle.std.specs.Io.KnownBytes.{Consumes, IsAtEnd}
use Rattle.std.specs.IoError.{error_kind}
use Rattle.std.specs.declared.io.ErrorKind.TheVariants.{Interrupted}
use Rattle.program_io.specs.declared.input.Unread.{Unread}
use Rattle.program_io.specs.declared.input.Unread.TheVariants.{Endless, Device, Refused}

-- Some octets were read from the input, and the result says why reading stopped. `Ok`: the input is
-- at its end. `Endless`: `most` reads didn't reach the end. `Device`: a read failed and wasn't
-- interrupted. `Refused`: the sink refused the last piece. The sink took all octets except the
-- refused piece.
abbrev pub ReadsInput : {S E : Type 0} → (S → List ℕ → S → Type 0) → (S → List ℕ → S → E → Type 0)
    → ℕ → Option (List ℕ) → Option (List ℕ) → S → S → Result (Unit {0}) (Unread E) → Type 0
ReadsInput takes refuses most start end old new (Ok done) =
    (octets : List ℕ) × Consumes start end octets × takes old octets new × IsAtEnd end
ReadsInput takes refuses most start end old new (Err (Endless reads)) =
    (octets : List ℕ) × Consumes start end octets × takes old octets new × (reads.made ≡ most)
ReadsInput takes refuses most start end old new (Err (Device error)) =
    (octets : List ℕ) × Consumes start end octets × takes old octets new
    × (error_kind error ≢ Interrupted)
ReadsInput takes refuses most start end old new (Err (Refused fault)) =
    (octets : List ℕ) × Consumes start end octets × refuses old octets new fault
