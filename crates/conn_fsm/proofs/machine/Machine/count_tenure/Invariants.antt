-- SPDX-License-Identifier: MIT OR Apache-2.0
use Rattle.std.proofs.Common.{◌≤◌, length}
use Rattle.hold_queue.specs.ChainState.{messages_in}
use Rattle.conn_fsm.proofs.machine.Machine.count_tenure.Given as goal

abbrev pub invariant-loop-place : goal.invariant-loop-place
invariant-loop-place l = l.place ≤ length (messages_in l.tenure l.sapi l.self.up.tenures)
