-- SPDX-License-Identifier: MIT OR Apache-2.0
use Rattle.std.proofs.Common.{◌≡◌, ◌++◌, take}
use Rattle.hold_queue.specs.HoldState.{messages}
use Rattle.conn_fsm.proofs.machine.Machine.copy_held.Given as goal

abbrev pub invariant-loop-place : goal.invariant-loop-place
invariant-loop-place l = l.list.items ≡ l.fn.list.items ++ take l.place (messages l.self.down l.sapi)
