-- SPDX-License-Identifier: MIT OR Apache-2.0
-- Checks the definitions on literal faults, reads and writes.
use Rattle.std.proofs.Common.{◌≡◌, ℕ, List, [], ◌∷◌, ◌++◌, map, Option, Some, None, Result, Ok, Err, refl, ap, length, arith}
use Rattle.std.specs.Prelude.{◌^◌, codes}
use Rattle.std.specs.IoError.{error_kind}
use Rattle.std.specs.declared.io.Error.{Error}
use Rattle.std.specs.declared.io.ErrorKind.TheVariants as kinds
use Rattle.program_io.specs.declared.input.TheConstants.{MOST_READS}
use Rattle.program_io.specs.declared.input.Unread.{Unread}
use Rattle.program_io.specs.declared.input.Unread.TheVariants as unread
use Rattle.program_io.specs.declared.input.Unread.TheVariants.{Endless, Refused}
use Rattle.program_io.specs.Input.{ReadsInput}
use Rattle.program_io.specs.Output.{AppendsBeginning, Puts, PutsAtOnce}
use Rattle.program_io.specs.declared.output.Taken.{Taken}
use Rattle.program_io.specs.declared.output.Taken.TheVariants.{All, Nothing}
use Rattle.program_io.specs.declared.failure.Failure.TheVariants.{BadEvent, Memory, Device}
use Rattle.program_io.specs.Status.{failure_of, failure_unread, status_of}

-- ---- statuses

statuses : map status_of (BadEvent 7 ∷ Memory ∷ Device ∷ []) ≡ 2 ∷ 3 ∷ 3 ∷ []
statuses = refl

failures : map failure_of (kinds.OutOfMemory ∷ kinds.BrokenPipe ∷ kinds.Other ∷ []) ≡ Memory ∷ Device ∷ Device ∷ []
failures = refl

reads : MOST_READS ≡ 2 ^ 40
reads = refl

-- an input without an end is a device that fails; what was refused keeps its reason
unread_scripts : map failure_unread (Endless (record { made = 1099511627776 }) ∷ Refused (BadEvent 7) ∷ Refused Memory ∷ []) ≡ Device ∷ BadEvent 7 ∷ Memory ∷ []
unread_scripts = refl

failed_read_of_a_script : (error : Error) → error_kind error ≡ kinds.OutOfMemory → failure_unread (unread.Device error) ≡ Memory
failed_read_of_a_script error is = ap failure_of is

-- ---- what was read

abbrev adds : List ℕ → List ℕ → List ℕ → Type 0
adds old octets new = new ≡ old ++ octets

abbrev stops_at : List ℕ → List ℕ → List ℕ → ℕ → Type 0
stops_at old octets new fault = octets ≡ fault ∷ []

abbrev two_reads : Option (List ℕ) → Option (List ℕ) → List ℕ → Result (Unit {0}) (Unread ℕ) → Type 0
two_reads start end taken result = ReadsInput adds stops_at 2 start end [] taken result

read_to_its_end : two_reads (Some (5 ∷ 6 ∷ [])) (Some []) (5 ∷ 6 ∷ []) (Ok tt)
read_to_its_end = (5 ∷ 6 ∷ [], refl, refl, refl)

not_to_its_end : two_reads (Some (5 ∷ 6 ∷ [])) (Some (6 ∷ [])) (5 ∷ []) (Ok tt) → ⊥
not_to_its_end some = absurd (cc some.3)

without_an_end : two_reads (Some (5 ∷ 6 ∷ [])) (Some (6 ∷ [])) (5 ∷ []) (Err (Endless (record { made = 2 })))
without_an_end = (5 ∷ [], refl, refl, refl)

a_read_was_left : two_reads (Some (5 ∷ 6 ∷ [])) (Some (6 ∷ [])) (5 ∷ []) (Err (Endless (record { made = 1 }))) → ⊥
a_read_was_left some = absurd (cc some.3)

refused_octet : two_reads (Some (5 ∷ 6 ∷ [])) (Some (6 ∷ [])) [] (Err (Refused 5))
refused_octet = (5 ∷ [], refl, refl)

interrupted : (error : Error) → error_kind error ≡ kinds.Interrupted → two_reads (Some []) (Some []) [] (Err (unread.Device error)) → ⊥
interrupted error is some = some.3 is

-- ---- what was written

beginning : AppendsBeginning (Some (codes "ff")) (Some (codes "fffe P")) (codes "fe PONG\n")
beginning = (codes "fe P", codes "ONG\n", refl, refl)

nothing_is_a_beginning : AppendsBeginning (Some (codes "ff")) (Some (codes "ff")) (codes "fe PONG\n")
nothing_is_a_beginning = ([], codes "fe PONG\n", refl, refl)

no_beginning : AppendsBeginning (Some (9 ∷ [])) (Some (9 ∷ 1 ∷ 3 ∷ [])) (1 ∷ 2 ∷ []) → ⊥
no_beginning some = absurd (cc (some.2, some.3))

all_of_it_is_put : (Puts (let r : Result ℕ ℕ = Ok 0 in r) (Some (codes "f")) (Some (codes "fe ")) (codes "e ")) × ((Puts (let r : Result ℕ ℕ = Ok 0 in r) (Some (codes "f")) (Some (codes "fe")) (codes "e ")) → ⊥)
all_of_it_is_put = (refl, λ is. absurd (cc is))

-- behind an f: all of a text, nothing of it, or an octet before a failure
abbrev at_once : Result Taken ℕ → List ℕ → Type 0
at_once result new = PutsAtOnce result (Some (codes "f")) (Some new) (codes "e ")

taken_at_once : at_once (Ok All) (codes "fe ") × at_once (Ok (Nothing None)) (codes "f") × at_once (Err 0) (codes "fe")
taken_at_once = (refl, refl, (codes "e", codes " ", refl, omega arith, refl))

not_all_of_it : at_once (Ok All) (codes "fe") → ⊥
not_all_of_it is = absurd (cc is)

not_nothing_of_it : at_once (Ok (Nothing None)) (codes "fe") → ⊥
not_nothing_of_it is = absurd (cc is)

failed_behind_nothing : at_once (Err 0) (codes "f") → ⊥
failed_behind_nothing some = absurd (omega (arith, some.3, ap length some.4))
