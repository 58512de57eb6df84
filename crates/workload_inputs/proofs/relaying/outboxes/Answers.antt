-- SPDX-License-Identifier: MIT OR Apache-2.0
use Rattle.workload_inputs.proofs.Outboxes.{one_more}
use Rattle.workload_inputs.proofs.relaying.outboxes.Goals as goal

pub loop-preserved : goal.loop-preserved
loop-preserved c =
    one_more c.loop.counter _ c.loop.putters.items c.push.new.self.items c.in_ok-putter.putter c.in_ok-putter.taker
    c.loop.invariant c.in_ok-putter.ensures c.in_ok-push.ensures.items
