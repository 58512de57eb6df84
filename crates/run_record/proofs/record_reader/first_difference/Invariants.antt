-- SPDX-License-Identifier: MIT OR Apache-2.0
use Rattle.std.proofs.Common.{◌≡◌, ◌≤◌, ◌+◌, ◌-◌, length, drop}
use Rattle.run_record.specs.Reading.{first_difference}
use Rattle.run_record.proofs.record_reader.first_difference.Given as goal

abbrev pub invariant-loop-at : goal.invariant-loop-at
invariant-loop-at l = record {
  same : l.at + first_difference (drop l.at l.left) (drop l.at l.right) ≡ first_difference l.left l.right;
  left_in : l.at ≤ length l.left;
  right_in : l.at ≤ length l.right;
}

abbrev pub decreases-loop-at : goal.decreases-loop-at
decreases-loop-at l = length l.left - l.at
