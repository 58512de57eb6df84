-- SPDX-License-Identifier: MIT OR Apache-2.0
-- The elements that are left give the same answer as all elements.
use Rattle.std.proofs.Common.{◌≡◌, drop}
use Rattle.std.specs.List.{list_any}
use Rattle.toml.specs.View.{items_view}
use Rattle.settings.specs.Found.{cell_seen}
use Rattle.settings.specs.Parameters.{same_listen}
use Rattle.settings.specs.Tables.{cells_of}
use Rattle.settings.proofs.repeats.has_listen.Given as goal

abbrev pub invariant-loop-other : goal.invariant-loop-other
invariant-loop-other l = list_any (same_listen (cell_seen l.cell)) (cells_of (items_view (drop l.other-index l.cells))) ≡ list_any (same_listen (cell_seen l.cell)) (cells_of (items_view l.cells))
