-- SPDX-License-Identifier: MIT OR Apache-2.0
use Rattle.std.proofs.Common.{◌≡◌, ◌+◌, length}
use Rattle.conn_rules.specs.Validity.{FirstIsEmpty}
use Rattle.conn_fsm.specs.Leaving.{left}
use Rattle.conn_fsm.proofs.machine.Machine.leave.Given as goal

abbrev pub invariant-loop-k : goal.invariant-loop-k
invariant-loop-k l = record {
  is : l.self ≡ left l._k l.fn.self;
  few : length l.self.draining + l._k ≡ length l.fn.self.draining;
  tenures : length l.self.up.tenures ≡ length l.self.draining + 1;
  first : FirstIsEmpty l.self.up.tenures;
}
