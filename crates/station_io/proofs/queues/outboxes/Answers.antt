-- SPDX-License-Identifier: MIT OR Apache-2.0
use Rattle.station_io.proofs.NewQueues.{more_outboxes}
use Rattle.station_io.proofs.queues.outboxes.Goals as goal

pub loop-preserved : goal.loop-preserved
loop-preserved c =
    more_outboxes c.loop.counter c.loop.putters.items c.push.new.self.items c.loop.takers.items c.push-in-loop.new.self.items c.in_ok-putter.putter c.in_ok-putter.taker
    c.loop.invariant c.in_ok-putter.ensures c.in_ok-push.ensures.items c.in_ok-push-2.ensures.items
