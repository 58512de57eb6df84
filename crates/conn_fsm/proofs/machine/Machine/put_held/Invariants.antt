-- SPDX-License-Identifier: MIT OR Apache-2.0
use Rattle.std.proofs.Common.{◌≡◌, ◌++◌, map, take}
use Rattle.conn_messages.specs.StationMessage.{handing}
use Rattle.hold_queue.specs.HoldState.{messages}
use Rattle.conn_fsm.proofs.machine.Machine.put_held.Given as goal

abbrev pub invariant-loop-place : goal.invariant-loop-place
invariant-loop-place l = l.put ≡ l.fn.put ++ map (handing l.channel l.sapi) (take l.place (messages l.self.down l.sapi))
