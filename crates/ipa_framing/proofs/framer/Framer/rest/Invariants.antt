-- SPDX-License-Identifier: MIT OR Apache-2.0
use Rattle.std.proofs.Common.{ℕ, List, length}
use Rattle.ipa_framing.specs.declared.frame.Frame.{Frame}
use Rattle.ipa_framing.specs.Frame.{Splits}
use Rattle.ipa_framing.proofs.framer.Framer.rest.Given as goal

abbrev pub invariant-loop-frame : goal.invariant-loop-frame
invariant-loop-frame l = (frames : List Frame) (rest : List ℕ) → Splits l.self.octets frames rest → (fs : List Frame) × Splits l.octets fs rest

abbrev pub decreases-loop-frame : goal.decreases-loop-frame
decreases-loop-frame l = length l.octets
