-- SPDX-License-Identifier: MIT OR Apache-2.0
-- The cells that are left have the first fault of all cells.
use Rattle.std.proofs.Common.{◌≡◌, drop}
use Rattle.toml.specs.View.{items_view}
use Rattle.settings.specs.Tables.{each_cell_fault}
use Rattle.settings.proofs.cells.refuse_cells.Given as goal

abbrev pub invariant-loop-value : goal.invariant-loop-value
invariant-loop-value l = each_cell_fault (items_view (drop l.value-index l.values)) ≡ each_cell_fault (items_view l.values)
