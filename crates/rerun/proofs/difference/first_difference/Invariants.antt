-- SPDX-License-Identifier: MIT OR Apache-2.0
use Rattle.std.proofs.Common.{◌≡◌, ◌≤◌, ◌+◌, ◌-◌, length, drop}
use Rattle.std.specs.Prelude.{option_map}
use Rattle.rerun.specs.Difference.{first_difference}
use Rattle.rerun.proofs.difference.first_difference.Given as goal

abbrev pub invariant-loop-at : goal.invariant-loop-at
invariant-loop-at l = record {
  same : option_map (λ k. l.at + k) (first_difference l.extent (drop l.at l.outs) (drop l.at l.puts)) ≡ first_difference l.extent l.outs l.puts;
  outs_in : l.at ≤ length l.outs;
  puts_in : l.at ≤ length l.puts;
}

abbrev pub decreases-loop-at : goal.decreases-loop-at
decreases-loop-at l = length l.outs - l.at
