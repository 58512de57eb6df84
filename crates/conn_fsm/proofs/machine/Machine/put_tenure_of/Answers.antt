-- SPDX-License-Identifier: MIT OR Apache-2.0
use Rattle.std.proofs.Common.{rules}
use Rattle.conn_messages.specs.SwitchMessage.{relaying}
use Rattle.hold_queue.specs.ChainState.{messages_in}
use Rattle.conn_fsm.proofs.Pushing.{put_next}
use Rattle.conn_fsm.proofs.machine.Machine.put_tenure_of.Goals as goal

pub loop-place-preserved : goal.loop-place-preserved
loop-place-preserved c =
    put_next (relaying c.args.reference c.channel_of-channel.result c.args.sapi) (messages_in c.args.tenure c.args.sapi c.args.self.now.up.tenures) c.loop-place.place c.in_ok-message.message c.args.put.now c.loop-place.put c.push.new.self c.relaying.result
    (search rules) c.loop-place.invariant c.relaying.ensures.word (search rules)
