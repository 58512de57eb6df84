-- SPDX-License-Identifier: MIT OR Apache-2.0
use Rattle.std.proofs.Common.{◌≡◌, ◌≤◌, ◌-◌, false}
use Rattle.ipa_framing.specs.Frame.{IsPartial}
use Rattle.link_workers.specs.declared.link_reads.TheConstants.{MOST_READS}
use Rattle.link_workers.proofs.Answering.{AnswersSome}
use Rattle.link_workers.proofs.switch.answer_all.Given as goal

abbrev pub invariant-loop-framer : goal.invariant-loop-framer
invariant-loop-framer g l =
    AnswersSome (g.I.Read.remaining l.initial.reader) (g.I.Read.remaining l.reader) (g.O.Write.contents l.initial.writer) (g.O.Write.contents l.writer) l.initial.switch l.switch l.framer.octets
    × IsPartial l.framer.octets × (l.framer.failed ≡ false) × (l.reads.made ≤ MOST_READS)

abbrev pub decreases-loop-framer : goal.decreases-loop-framer
decreases-loop-framer g l = MOST_READS - l.reads.made
