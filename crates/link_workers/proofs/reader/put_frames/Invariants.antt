-- SPDX-License-Identifier: MIT OR Apache-2.0
use Rattle.std.proofs.Common.{◌≡◌, List, length}
use Rattle.ipa_framing.specs.declared.frame.Frame.{Frame}
use Rattle.link_workers.specs.Gates.{LetsEach}
use Rattle.link_workers.specs.Reading.{Puts}
use Rattle.link_workers.proofs.reader.put_frames.Given as goal

abbrev pub invariant-loop-frame : goal.invariant-loop-frame
invariant-loop-frame g l =
    ((frames : List Frame) × Puts l.initial.framer.octets (g.G.Gate.refused l.initial.gated.gate) (g.G.Gate.refused l.gated.gate) l.initial.gated.pass l.gated.pass frames l.framer.octets)
    × (l.framer.failed ≡ l.initial.framer.failed) × (l.gated.limit ≡ l.initial.gated.limit)
    × LetsEach (g.G.Gate.passed l.initial.gated.gate) (g.G.Gate.passed l.gated.gate) l.initial.gated.pass l.gated.pass

abbrev pub decreases-loop-frame : goal.decreases-loop-frame
decreases-loop-frame g l = length l.framer.octets
