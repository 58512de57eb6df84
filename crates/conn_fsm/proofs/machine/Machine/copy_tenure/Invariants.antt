-- SPDX-License-Identifier: MIT OR Apache-2.0
use Rattle.std.proofs.Common.{◌≡◌, ◌++◌, take}
use Rattle.hold_queue.specs.ChainState.{messages_in}
use Rattle.conn_fsm.proofs.machine.Machine.copy_tenure.Given as goal

abbrev pub invariant-loop-place : goal.invariant-loop-place
invariant-loop-place l = l.list.items ≡ l.fn.list.items ++ take l.place (messages_in l.tenure l.sapi l.self.up.tenures)
