-- SPDX-License-Identifier: MIT OR Apache-2.0
use Rattle.std.proofs.Common.{◌≡◌, ◌++◌, map}
use Rattle.judge_orders.specs.Trial.{known_of}
use Rattle.judge_orders.proofs.trial.give_up.Given as goal

abbrev pub invariant-loop-t : goal.invariant-loop-t
invariant-loop-t l = l.judged.items ≡ l.initial.judged.items ++ map known_of l.yielded
