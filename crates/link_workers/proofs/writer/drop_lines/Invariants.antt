-- SPDX-License-Identifier: MIT OR Apache-2.0
use Rattle.std.proofs.Common.{◌≡◌, List}
use Rattle.ipa_framing.specs.declared.frame.Frame.{Frame}
use Rattle.link_workers.specs.Writing.{having_taken, lines}
use Rattle.link_workers.proofs.writer.drop_lines.Given as goal

abbrev pub invariant-loop : goal.invariant-loop
invariant-loop g l =
    (goal.iterator-loop g).can_next l.iterator' × (goal.iterator-loop g).is_finite l.iterator'
    × ((frames : List Frame) × (l.taker ≡ having_taken l.initial.taker (lines frames)))
