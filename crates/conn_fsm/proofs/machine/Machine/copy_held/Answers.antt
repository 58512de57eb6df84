-- SPDX-License-Identifier: MIT OR Apache-2.0
use Rattle.std.proofs.Common.{rules}
use Rattle.hold_queue.specs.HoldState.{messages}
use Rattle.conn_fsm.proofs.Pushing.{copied_next}
use Rattle.conn_fsm.proofs.machine.Machine.copy_held.Goals as goal

pub loop-place-preserved : goal.loop-place-preserved
loop-place-preserved c =
    copied_next (messages c.args.self.now.down c.args.sapi) c.loop-place.place c.in_ok-copy.field-0 c.args.list.now.items c.loop-place.list.items c.push.new.self.items
    (search rules) c.loop-place.invariant (search rules)
