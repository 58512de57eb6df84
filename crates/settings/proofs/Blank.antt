-- SPDX-License-Identifier: MIT OR Apache-2.0
-- A blank text is refused with the first fault of a table without keys, and with nothing else.
use Rattle.std.proofs.Common.{◌≡◌, ℕ, List, Some, Result, Ok, Err, refl, sym, ◌∙◌, subst}
use Rattle.toml.specs.Data.{Members, no_members}
use Rattle.toml.specs.Errors.{IsBlank}
use Rattle.toml.specs.Parse.{lines, parse_document}
use Rattle.settings.specs.declared.fault.SettingsFault.{SettingsFault}
use Rattle.settings.specs.declared.fault.SettingsFault.TheVariants.{NotToml, Unknown, Missing, BadType, BadValue, Repeated, Memory}
use Rattle.settings.specs.Answer.{Reads}
use Rattle.settings.specs.Parameters.{Parameters}
use Rattle.settings.specs.Tables.{parameters_of, first_fault, settings_in}

parse_blank : (text : List ℕ) → IsBlank text → parse_document text ≡ Some no_members
unfolding parse_document lines
parse_blank text blank = rw blank refl

-- a key that is missing is answered whether or not there is memory
missing_first : (r : Result Parameters SettingsFault) (value : Parameters) (key : _) →
    Reads r value (Some (Missing key)) →
    r ≡ Err (Missing key)
missing_first (Ok settings) value key reads = absurd (cc (reads.0))
missing_first (Err Memory) value key reads = absurd reads
missing_first (Err NotToml) value key reads = absurd (cc (reads))
missing_first (Err (Unknown name)) value key reads = absurd (cc (reads))
missing_first (Err (Missing other)) value key reads = cc (reads)
missing_first (Err (BadType other)) value key reads = absurd (cc (reads))
missing_first (Err (BadValue other)) value key reads = absurd (cc (reads))
missing_first (Err (Repeated other)) value key reads = absurd (cc (reads))

blank_members : (r : Result Parameters SettingsFault) (ms : Members) → no_members ≡ ms → Reads r (parameters_of ms) (first_fault ms)
    → r ≡ settings_in (Some no_members)
blank_members r ms same reads = missing_first r _ _ (subst (λ ms. Reads r (parameters_of ms) (first_fault ms)) (sym same) reads)

pub blank_answer : (text : List ℕ) (ms : Members) (r : Result Parameters SettingsFault) → IsBlank text → parse_document text ≡ Some ms
    → Reads r (parameters_of ms) (first_fault ms) → r ≡ settings_in (parse_document text)
blank_answer text ms r blank parsed reads =
    let empty = parse_blank text blank in
    rw empty (blank_members r ms (cc (sym empty ∙ parsed)) reads)
