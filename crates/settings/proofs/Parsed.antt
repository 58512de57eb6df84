-- SPDX-License-Identifier: MIT OR Apache-2.0
-- Lemmas: the result that follows from the parser's result is what the definition says of the text.
use Rattle.std.proofs.Common.{◌≡◌, ◌≢◌, ℕ, List, Option, Some, None, Result, Ok, Err, refl, sym, ap, ◌∙◌}
use Rattle.std.specs.BTreeMap.{BTreeMap}
use Rattle.std.specs.Prelude.{IfErr, IfOk, String}
use Rattle.std.specs.declared.alloc.Global.{Global}
use Rattle.toml.specs.Errors.{IsBlank, IsMemory}
use Rattle.toml.specs.Parse.{parse_document}
use Rattle.toml.specs.View.{table_view}
use Rattle.toml.specs.declared.de.error.Error.{Error}
use Rattle.toml.specs.declared.value.Value.{Value}
use Rattle.settings.specs.declared.fault.SettingsFault.{SettingsFault}
use Rattle.settings.specs.declared.fault.SettingsFault.TheVariants.{NotToml, Unknown, Missing, BadType, BadValue, Repeated, Memory}
use Rattle.settings.specs.Answer.{Reads}
use Rattle.settings.specs.Parameters.{Parameters}
use Rattle.settings.specs.Parsed.{IsAnswered}
use Rattle.settings.specs.Tables.{settings_in, unless_fault}
use Rattle.settings.proofs.Blank.{blank_answer}

-- an answer that isn't want of memory is the value, or the first fault
unless_memory : (r : Result Parameters SettingsFault) (value : Parameters) (first : Option SettingsFault) → Reads r value first → r ≢ Err Memory
    → r ≡ unless_fault value first
unless_memory (Ok settings) value first reads other = ap (λ (p : Parameters). Ok p) reads.1 ∙ ap (unless_fault value) (sym reads.0)
unless_memory (Err Memory) value first reads other = absurd (other refl)
unless_memory (Err NotToml) value first reads other = ap (unless_fault value) (sym reads)
unless_memory (Err (Unknown name)) value first reads other = ap (unless_fault value) (sym reads)
unless_memory (Err (Missing key)) value first reads other = ap (unless_fault value) (sym reads)
unless_memory (Err (BadType key)) value first reads other = ap (unless_fault value) (sym reads)
unless_memory (Err (BadValue key)) value first reads other = ap (unless_fault value) (sym reads)
unless_memory (Err (Repeated key)) value first reads other = ap (unless_fault value) (sym reads)

pub parsed_answer : (text : List ℕ) (parsed : Result (BTreeMap (String Global) Value) Error) (r : Result Parameters SettingsFault)
    → IfOk parsed (λ table. parse_document text ≡ Some (table_view table)) → IfErr parsed (λ error. ¬ (IsMemory error) → parse_document text ≡ None)
    → IsAnswered parsed r → r ≢ Err Memory → r ≡ settings_in (parse_document text)
parsed_answer text (Ok table) r found none answered other = unless_memory r _ _ answered other ∙ ap settings_in (sym found)
parsed_answer text (Err error) r found none answered other =
    let refused : ¬ (IsMemory error) = λ memory. other (answered.0 memory) in
    answered.1 refused ∙ ap settings_in (sym (none refused))

pub blank_parsed : (text : List ℕ) (parsed : Result (BTreeMap (String Global) Value) Error) (r : Result Parameters SettingsFault)
    → IfOk parsed (λ table. parse_document text ≡ Some (table_view table)) → IfErr parsed (λ error. ¬ (IsMemory error) → parse_document text ≡ None)
    → IfErr parsed (λ error. IsMemory error → ¬ (IsBlank text)) → IsAnswered parsed r → IsBlank text → r ≡ settings_in (parse_document text)
blank_parsed text (Ok table) r found none wants answered blank = blank_answer text _ r blank found answered
blank_parsed text (Err error) r found none wants answered blank =
    let refused : ¬ (IsMemory error) = λ memory. wants memory blank in
    answered.1 refused ∙ ap settings_in (sym (none refused))
