-- SPDX-License-Identifier: MIT OR Apache-2.0
-- The invariants of the loops over channels and cells after the first values are copied.
use Rattle.std.proofs.Common.{◌≡◌, ℕ, true, List, [], ◌∷◌, Option, Some, None, ◌++◌, ◌+◌, add-one, drop, length, zero, suc, refl}
use Rattle.std.specs.Prelude.{All}
use Rattle.octets.specs.Refusal.{first_refusal}
use Rattle.toml.specs.View.{items_view}
use Rattle.toml.specs.declared.value.Value.{Value}
use Rattle.settings.specs.declared.fault.SettingsFault.{SettingsFault}
use Rattle.settings.specs.Faults.{all_items, is_channel}
use Rattle.settings.specs.Parameters.{CellParameters, IsChannel, IsCell}
use Rattle.settings.specs.Tables.{numbers_in, cells_of, each_cell_fault}

-- the channels that are copied and those that are left are all, and what is left are channels
pub record EachChannel (values : List Value) (i : ℕ) (channels : List ℕ) : Type 0 where
  pub count : length channels ≡ i
  pub numbers : channels ++ numbers_in (items_view (drop i values)) ≡ numbers_in (items_view values)
  pub passes : all_items is_channel (items_view (drop i values)) ≡ true
  pub each : All IsChannel channels

-- the cells that are copied and those that are left are all, and what is left has no fault
pub record EachCell (values : List Value) (i : ℕ) (cells : List CellParameters) : Type 0 where
  pub count : length cells ≡ i
  pub read : cells ++ cells_of (items_view (drop i values)) ≡ cells_of (items_view values)
  pub fault : each_cell_fault (items_view (drop i values)) ≡ None
  pub each : All IsCell cells

-- where cells have no fault, those behind the first of them have none
second_none : (first second : Option SettingsFault) → first_refusal first second ≡ None → second ≡ None
second_none None second none = none
second_none (Some fault) second none = absurd cc

next_passes : (values : List Value) (i : ℕ) →
    each_cell_fault (items_view (drop i values)) ≡ None →
    each_cell_fault (items_view (drop (suc i) values)) ≡ None
next_passes [] zero none = refl
next_passes [] (suc i) none = refl
next_passes (v ∷ vs) zero none = second_none _ _ none
next_passes (v ∷ vs) (suc i) none = next_passes vs i none

pub left_passes : (values : List Value) (i : ℕ) →
    each_cell_fault (items_view (drop i values)) ≡ None →
    each_cell_fault (items_view (drop (i + 1) values)) ≡ None
left_passes values i none = rw (add-one i) (next_passes values i none)
