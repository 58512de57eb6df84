-- SPDX-License-Identifier: MIT OR Apache-2.0
use Rattle.std.proofs.Common.{◌≡◌, ◌++◌, take}
use Rattle.std.specs.List.{flat_map}
use Rattle.trace_pictures.specs.FramesSent.{put_at}
use Rattle.trace_pictures.proofs.link_frames.add_frames.Given as goal

abbrev pub invariant-loop-crossing : goal.invariant-loop-crossing
invariant-loop-crossing l = l.frames.items ≡ l.fn.frames.items ++ flat_map (put_at l.ms) (take l.crossing-index l.crossings)
