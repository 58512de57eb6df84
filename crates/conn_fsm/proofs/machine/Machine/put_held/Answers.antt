-- SPDX-License-Identifier: MIT OR Apache-2.0
use Rattle.std.proofs.Common.{rules}
use Rattle.conn_messages.specs.StationMessage.{handing}
use Rattle.hold_queue.specs.HoldState.{messages}
use Rattle.conn_fsm.proofs.Pushing.{put_next}
use Rattle.conn_fsm.proofs.machine.Machine.put_held.Goals as goal

pub loop-place-preserved : goal.loop-place-preserved
loop-place-preserved c =
    put_next (handing c.args.channel.now c.args.sapi) (messages c.args.self.now.down c.args.sapi) c.loop-place.place c.in_ok-message.message c.args.put.now c.loop-place.put c.push.new.self c.handing.result
    (search rules) c.loop-place.invariant c.handing.ensures.word (search rules)
