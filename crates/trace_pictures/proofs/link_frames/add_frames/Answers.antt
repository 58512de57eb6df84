-- SPDX-License-Identifier: MIT OR Apache-2.0
use Rattle.trace_pictures.proofs.Sending.{crossing_more}
use Rattle.trace_pictures.proofs.link_frames.add_frames.Goals as goal

pub loop-crossing-preserved : goal.loop-crossing-preserved
loop-crossing-preserved c =
    crossing_more c.args.ms c.loop-crossing.crossing-index c.args.crossings.now c.crossing-item.result c.args.frames.now.items
    c.loop-crossing.frames.items c.add_frame.new.frames.items c.loop-crossing.invariant c.loop-crossing-test.true c.crossing-item.is
    c.in_ok-add_frame.ensures
