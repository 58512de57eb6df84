-- SPDX-License-Identifier: MIT OR Apache-2.0
use Rattle.std.proofs.Common.{◌≡◌, length, take}
use Rattle.conn_fsm.specs.Views.{joined}
use Rattle.conn_fsm.proofs.machine.Machine.count_tenures.Given as goal

abbrev pub invariant-loop-tenure : goal.invariant-loop-tenure
invariant-loop-tenure l = l.count ≡ length (joined l.sapi (take l.tenure l.self.up.tenures))
