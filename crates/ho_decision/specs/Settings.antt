-- SPDX-License-Identifier: MIT OR Apache-2.0
-- The settings of the handover decision for one serving cell.
use Rattle.std.specs.Prelude.{ℕ, ◌-◌, ◌≤◌, ◌==◌, nat_lt, List, [], length}
use Rattle.std.specs.Prelude.{fold, remove, insert, count_by, if◌then◌else◌}
use Rattle.std.specs.List.{list_any}
use Rattle.ho_decision.specs.declared.settings.Cell.{Cell}
use Rattle.ho_decision.specs.declared.settings.HoParameters.{HoParameters}
use Rattle.ho_decision.specs.declared.settings.TheConstants.{MAX_CELLS, MAX_HYSTERESIS}
use Rattle.ho_decision.specs.declared.settings.TheConstants.{MAX_INTERVAL, MAX_WINDOW}

-- the parameters, the cells in order, and the number of the serving cell, from 1
pub record Settings : Type 0 where
  pub parameters : HoParameters
  pub cells : List Cell
  pub serving : ℕ

abbrev pub settings_of : HoParameters → List Cell → ℕ → Settings
settings_of parameters cells serving =
    record { parameters = parameters; cells = cells; serving = serving }

-- each parameter is in its range, there are at most MAX_CELLS cells, and one of the cells is the
-- serving one
pub record IsAllowed (s : Settings) : Type 0 where
  pub rxlev_window : (1 ≤ s.parameters.rxlev_window) × (s.parameters.rxlev_window ≤ MAX_WINDOW)
  pub rxqual_window : (1 ≤ s.parameters.rxqual_window) × (s.parameters.rxqual_window ≤ MAX_WINDOW)
  pub neighbour_window : (1 ≤ s.parameters.neighbour_window)
      × (s.parameters.neighbour_window ≤ MAX_WINDOW)
  pub interval : (1 ≤ s.parameters.interval) × (s.parameters.interval ≤ MAX_INTERVAL)
  pub hysteresis : s.parameters.hysteresis ≤ MAX_HYSTERESIS
  pub cells : length s.cells ≤ MAX_CELLS
  pub serving : (1 ≤ s.serving) × (s.serving ≤ length s.cells)

-- all cells but the serving one
abbrev pub others : Settings → List Cell
others s = remove s.cells (s.serving - 1)

-- a rising list of ARFCNs with `arfcn` inserted, unless the list has it
abbrev pub with_arfcn : List ℕ → ℕ → List ℕ
with_arfcn arfcns arfcn =
    if list_any (λ a. a == arfcn) arfcns
    then arfcns
    else insert arfcns (count_by (λ a. nat_lt a arfcn) arfcns) arfcn

abbrev pub with_cell : List ℕ → Cell → List ℕ
with_cell arfcns cell = with_arfcn arfcns cell.arfcn

-- the ARFCNs of the other cells, rising and each once
abbrev pub other_arfcns : Settings → List ℕ
other_arfcns s = fold with_cell [] (others s)
