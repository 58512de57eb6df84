-- SPDX-License-Identifier: MIT OR Apache-2.0
-- The result of `read`, given the result of the TOML parser.
use Rattle.std.specs.Prelude.{◌≡◌, Result, Ok, Err, String}
use Rattle.std.specs.BTreeMap.{BTreeMap}
use Rattle.std.specs.declared.alloc.Global.{Global}
use Rattle.toml.specs.Errors.{IsMemory}
use Rattle.toml.specs.View.{table_view}
use Rattle.toml.specs.declared.de.error.Error.{Error}
use Rattle.toml.specs.declared.value.Value.{Value}
use Rattle.settings.specs.declared.fault.SettingsFault.{SettingsFault}
use Rattle.settings.specs.declared.fault.SettingsFault.TheVariants.{NotToml, Memory}
use Rattle.settings.specs.Answer.{Reads}
use Rattle.settings.specs.Parameters.{Parameters}
use Rattle.settings.specs.Tables.{parameters_of, first_fault}

-- If the parser returned a table, the result is its settings or a refusal. If the parser ran out of
-- memory, the result is `Memory`; if the parser failed otherwise, the result is `NotToml`.
abbrev pub IsAnswered : Result (BTreeMap (String Global) Value) Error
    → Result Parameters SettingsFault → Type 0
IsAnswered (Ok table) result =
    Reads result (parameters_of (table_view table)) (first_fault (table_view table))
IsAnswered (Err error) result =
    (IsMemory error → result ≡ Err Memory) × (¬ (IsMemory error) → result ≡ Err NotToml)
