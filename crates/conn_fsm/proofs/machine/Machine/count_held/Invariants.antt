-- SPDX-License-Identifier: MIT OR Apache-2.0
use Rattle.std.proofs.Common.{◌≤◌, length}
use Rattle.hold_queue.specs.HoldState.{messages}
use Rattle.conn_fsm.proofs.machine.Machine.count_held.Given as goal

abbrev pub invariant-loop-place : goal.invariant-loop-place
invariant-loop-place l = l.place ≤ length (messages l.self.down l.sapi)
