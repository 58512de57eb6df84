-- SPDX-License-Identifier: MIT OR Apache-2.0
use Rattle.std.proofs.Common.{◌≡◌, List, length}
use Rattle.ipa_framing.specs.declared.frame.Frame.{Frame}
use Rattle.link_workers.specs.Switching.{Answers}
use Rattle.link_workers.proofs.switch.answer_frames.Given as goal

abbrev pub invariant-loop-frame : goal.invariant-loop-frame
invariant-loop-frame g l =
    ((frames : List Frame) × Answers l.initial.framer.octets (g.O.Write.contents l.initial.writer) (g.O.Write.contents l.writer) l.initial.switch l.switch frames l.framer.octets)
    × (l.framer.failed ≡ l.initial.framer.failed)

abbrev pub decreases-loop-frame : goal.decreases-loop-frame
decreases-loop-frame g l = length l.framer.octets
