-- SPDX-License-Identifier: MIT OR Apache-2.0
use Rattle.std.proofs.Common.{◌≡◌, ◌++◌}
use Rattle.conn_fsm.specs.Leaving.{left_outs}
use Rattle.conn_fsm.proofs.machine.Machine.put_left.Given as goal

abbrev pub invariant-loop-k : goal.invariant-loop-k
invariant-loop-k l = l.put ≡ l.initial.put ++ left_outs l.reference l.k l.self
