-- SPDX-License-Identifier: MIT OR Apache-2.0
use Rattle.std.proofs.Common.{◌≡◌, ◌++◌, map, take}
use Rattle.conn_messages.specs.SwitchMessage.{relaying}
use Rattle.hold_queue.specs.ChainState.{messages_in}
use Rattle.conn_fsm.proofs.machine.Machine.put_tenure_of.Given as goal

abbrev pub invariant-loop-place : goal.invariant-loop-place
invariant-loop-place l = l.put ≡ l.fn.put ++ map (relaying l.reference l.channel l.sapi) (take l.place (messages_in l.tenure l.sapi l.self.up.tenures))
