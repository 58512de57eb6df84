-- SPDX-License-Identifier: MIT OR Apache-2.0
use Rattle.std.proofs.Common.{◌≡◌, length}
use Rattle.program_base.specs.Decoded.{PrintsFrames}
use Rattle.program_base.proofs.decode_command.print_frames.Given as goal

abbrev pub invariant-loop-frame : goal.invariant-loop-frame
invariant-loop-frame g l =
    PrintsFrames g.L.FrameLine.line l.initial.framer l.framer (g.W.Write.contents l.initial.output) (g.W.Write.contents l.output) × (l.framer.failed ≡ l.initial.framer.failed)

abbrev pub decreases-loop-frame : goal.decreases-loop-frame
decreases-loop-frame g l = length l.framer.octets
