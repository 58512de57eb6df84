-- SPDX-License-Identifier: MIT OR Apache-2.0
use Rattle.std.proofs.Common.{◌≡◌, ◌*◌, ◌≤◌}
use Rattle.ho_decision.specs.Sums.{total_over}
use Rattle.ho_decision.proofs.running.average_over.Given as goal

-- the total over the last reports so far
abbrev pub invariant-loop-back : goal.invariant-loop-back
invariant-loop-back l = record {
  total : l.total ≡ total_over l.of.measure l.back l.reports.items;
  octets : l.total ≤ l.back * 255;
}
