-- SPDX-License-Identifier: MIT OR Apache-2.0
use Rattle.std.proofs.Common.{◌≡◌, ◌++◌, map}
use Rattle.judge_orders.specs.Judged.{alone}
use Rattle.judge_orders.proofs.trial.add_alone.Given as goal

abbrev pub invariant-loop-connection : goal.invariant-loop-connection
invariant-loop-connection l = l.judged.items ≡ l.initial.judged.items ++ map alone l.yielded
