-- SPDX-License-Identifier: MIT OR Apache-2.0
-- Checks the results if the parser refuses a text, and if it gives a table.
use Rattle.std.proofs.Common.{◌≡◌, Ok, Err, refl, sym, subst, ◌∙◌}
use Rattle.std.specs.BTreeMap.{BTreeMap}
use Rattle.std.specs.Prelude.{String}
use Rattle.std.specs.declared.alloc.Global.{Global}
use Rattle.toml.specs.Data.Members.{no_members}
use Rattle.toml.specs.View.{table_view}
use Rattle.toml.specs.declared.de.error.Error.{Error}
use Rattle.toml.specs.declared.value.Value.{Value}
use Rattle.toml_parser.specs.declared.error.ErrorKind.TheVariants.{Key, OutOfMemory}
use Rattle.settings.specs.declared.fault.SettingsFault.TheVariants.{NotToml, Missing, Memory}
use Rattle.settings.specs.declared.key.Key.TheVariants as keys
use Rattle.settings.specs.Answer.{Reads}
use Rattle.settings.specs.Parameters.{Parameters}
use Rattle.settings.specs.Parsed.{IsAnswered}
use Rattle.settings.specs.Tables.{parameters_of, first_fault}

abbrev Table : Type 0
Table = BTreeMap (String Global) Value

-- ---- a text that is refused

memory_was_wanted : (e : Error) → e.kind ≡ OutOfMemory → IsAnswered (Err e) (Err Memory)
memory_was_wanted e kind = (λ _. refl, λ other. absurd (other kind))

not_as_a_text : (e : Error) → e.kind ≡ OutOfMemory → IsAnswered (Err e) (Err NotToml) → ⊥
not_as_a_text e kind answered = absurd (cc (answered.0 kind))

never_settings : (e : Error) → e.kind ≡ OutOfMemory → (settings : Parameters) → IsAnswered (Err e) (Ok settings) → ⊥
never_settings e kind settings answered = absurd (cc (answered.0 kind))

no_memory : (e : Error) → e.kind ≡ Key → e.kind ≡ OutOfMemory → ⊥
no_memory e kind memory = absurd (cc (sym kind ∙ memory))

not_of_the_language : (e : Error) → e.kind ≡ Key → IsAnswered (Err e) (Err NotToml)
not_of_the_language e kind = (λ memory. absurd (no_memory e kind memory), λ _. refl)

not_as_want_of_memory : (e : Error) → e.kind ≡ Key → IsAnswered (Err e) (Err Memory) → ⊥
not_as_want_of_memory e kind answered = absurd (cc (answered.1 (no_memory e kind)))

nor_as_a_missing_key : (e : Error) → e.kind ≡ Key → IsAnswered (Err e) (Err (Missing keys.Network)) → ⊥
nor_as_a_missing_key e kind answered = absurd (cc (answered.1 (no_memory e kind)))

-- ---- an empty table: `network` is missing, whose table is the first that is wanted

of_no_table : (table : Table) → table_view table ≡ no_members → IsAnswered (Ok table) (Err (Missing keys.Network))
of_no_table table empty =
    subst (λ ms. Reads {X = Parameters} (Err (Missing keys.Network)) (parameters_of ms) (first_fault ms)) (sym empty) refl

not_the_switch : (table : Table) → table_view table ≡ no_members → IsAnswered (Ok table) (Err (Missing keys.Switch)) → ⊥
not_the_switch table empty answered =
    absurd (cc (subst (λ ms. Reads {X = Parameters} (Err (Missing keys.Switch)) (parameters_of ms) (first_fault ms)) empty answered))

not_no_toml : (table : Table) → table_view table ≡ no_members → IsAnswered (Ok table) (Err NotToml) → ⊥
not_no_toml table empty answered =
    absurd (cc (subst (λ ms. Reads {X = Parameters} (Err NotToml) (parameters_of ms) (first_fault ms)) empty answered))

no_memory_for_it : (table : Table) → table_view table ≡ no_members → IsAnswered (Ok table) (Err Memory) → ⊥
no_memory_for_it table empty answered =
    subst (λ ms. Reads {X = Parameters} (Err Memory) (parameters_of ms) (first_fault ms)) empty answered

no_settings : (table : Table) → table_view table ≡ no_members → (settings : Parameters) → IsAnswered (Ok table) (Ok settings) → ⊥
no_settings table empty settings answered =
    absurd (cc (subst (λ ms. Reads {X = Parameters} (Ok settings) (parameters_of ms) (first_fault ms)) empty answered).0)
