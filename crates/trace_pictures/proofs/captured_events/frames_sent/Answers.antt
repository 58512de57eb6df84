-- SPDX-License-Identifier: MIT OR Apache-2.0
use Rattle.std.proofs.Common.{◌∙◌}
use Rattle.trace_pictures.specs.FramesSent.{frames_sent}
use Rattle.trace_pictures.proofs.Sending.{event_more}
use Rattle.trace_pictures.proofs.captured_events.frames_sent.Goals as goal

pub loop-event-preserved : goal.loop-event-preserved
loop-event-preserved c = record {
  sent = event_more c.loop-event.network c.step.new.network c.loop-event.ms c.time_after-ms.result c.loop-event.event-index c.args.events.now
      c.event-item.result c.loop-event.frames.items c.add_frames.new.frames.items (frames_sent c.args.network.now 0 c.args.events.now)
      c.as_slice.result.now c.loop-event.invariant.sent c.loop-event-test.true c.event-item.is c.time_after-ms.ensures
      c.in_ok-trace.ensures.actors (c.as_slice.ensures.value ∙ c.in_ok-trace.ensures.crossings) c.in_ok-add_frames.ensures;
  seen = c.in_ok-trace.ensures.seen;
}
