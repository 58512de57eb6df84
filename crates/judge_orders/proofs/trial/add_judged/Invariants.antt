-- SPDX-License-Identifier: MIT OR Apache-2.0
use Rattle.std.proofs.Common.{◌≡◌, ◌++◌, map}
use Rattle.judge_orders.specs.Trial.{judged_as}
use Rattle.judge_orders.proofs.trial.add_judged.Given as goal

abbrev pub invariant-loop-t : goal.invariant-loop-t
invariant-loop-t l = l.judged.items ≡ l.initial.judged.items ++ map (judged_as l.first l.second) l.yielded
