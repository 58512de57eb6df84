-- SPDX-License-Identifier: MIT OR Apache-2.0
-- The next cell keeps its ranges.
use Rattle.std.proofs.Common.{arith}
use Rattle.std.proofs.lemmas.Grind.{common_steps}
use Rattle.std.proofs.lemmas.List.Elements.{All-push}
use Rattle.settings.specs.Parameters.{IsCell}
use Rattle.settings.proofs.Turns.{left_passes}
use Rattle.settings.proofs.cells.copy_cells.Goals as goal

pub loop-value-preserved : goal.loop-value-preserved
loop-value-preserved c = record {
  count = grind (arith, common_steps);
  read = grind (arith, common_steps);
  fault = left_passes c.args.values.now c.loop-value.value-index c.loop-value.invariant.fault;
  each = rw c.in_ok-push.ensures.items (All-push IsCell _ _ c.loop-value.invariant.each c.in_ok-copy_cell.ensures.within);
}
