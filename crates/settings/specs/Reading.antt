-- SPDX-License-Identifier: MIT OR Apache-2.0
-- The results of reading a key, a value or a table: the value found, or the first fault.
use Rattle.std.specs.Prelude.{List, Option, Some, Result}
use Rattle.toml.specs.Data.{Data, Members}
use Rattle.settings.specs.declared.finding.Finding.{Finding}
use Rattle.settings.specs.declared.key.Key.{Key}
use Rattle.settings.specs.Answer.{Finds}
use Rattle.settings.specs.Faults.{key_fault, value_fault, table_fault}
use Rattle.settings.specs.Faults.{required_table_fault, optional_table_fault}
use Rattle.settings.specs.Rules.{Kind, Rule}
use Rattle.settings.specs.Tables.{by_rule, members_in}

-- The result of reading the key of a rule in the members of a table.
abbrev pub FindsKey : {X Y : Type 0} → Result X Finding → (X → Y) → Rule → (Option Data → Y)
    → Members → Type 0
FindsKey result seen rule value ms =
    Finds result seen (value (by_rule rule ms)) (key_fault rule ms)

-- The result of reading a value of this kind at a key.
abbrev pub FindsValue : {X Y : Type 0} → Result X Finding → (X → Y) → Key → Kind
    → (Option Data → Y) → Data → Type 0
FindsValue result seen key kind value d =
    Finds result seen (value (Some d)) (value_fault key kind d)

-- The result of reading a table by the rules of its keys.
abbrev pub FindsTable : {X Y : Type 0} → Result X Finding → (X → Y) → Key → List Rule
    → (Members → Y) → Members → Type 0
FindsTable result seen key rules value ms =
    Finds result seen (value ms) (table_fault key rules ms)

-- The result of reading a required table, given the value at its key.
abbrev pub FindsRequired : {X Y : Type 0} → Result X Finding → (X → Y) → Key → List Rule
    → (Members → Y) → Option Data → Type 0
FindsRequired result seen key rules value held =
    Finds result seen (value (members_in held)) (required_table_fault key rules held)

-- The result of reading an optional table, given the value at its key.
abbrev pub FindsOptional : {X Y : Type 0} → Result X Finding → (X → Y) → Key → List Rule
    → (Members → Y) → Option Data → Type 0
FindsOptional result seen key rules value held =
    Finds result seen (value (members_in held)) (optional_table_fault key rules held)

-- ---- views of a result

-- The identity, for results that are numbers or Booleans.
abbrev pub as_it_is : {X : Type 0} → X → X
as_it_is x = x
