-- SPDX-License-Identifier: MIT OR Apache-2.0
use Rattle.std.proofs.Common.{◌≡◌, ◌++◌, fold}
use Rattle.judge_orders.specs.Shown.{shown_trial}
use Rattle.judge_orders.specs.Trial.{left_in, others_left}
use Rattle.judge_orders.proofs.trial.Trial.leave_all.Given as goal

abbrev pub invariant-loop-connection : goal.invariant-loop-connection
invariant-loop-connection l = record {
  trial : shown_trial l.self ≡ fold left_in (shown_trial l.initial.self) l.yielded;
  number : l.self.number ≡ l.initial.self.number;
  next : l.self.next ≡ l.initial.self.next;
  others : l.other.items ≡ l.initial.other.items ++ others_left (shown_trial l.initial.self) l.yielded;
}
