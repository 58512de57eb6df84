-- SPDX-License-Identifier: MIT OR Apache-2.0
use Rattle.settings.proofs.Turns.{EachCell}
use Rattle.settings.proofs.cells.copy_cells.Given as goal

abbrev pub invariant-loop-value : goal.invariant-loop-value
invariant-loop-value l = EachCell l.values l.value-index l.cells.items
