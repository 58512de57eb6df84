-- SPDX-License-Identifier: MIT OR Apache-2.0
use Rattle.std.proofs.Common.{◌≡◌, ◌≤◌, ◌-◌, false}
use Rattle.ipa_framing.specs.Frame.{IsPartial}
use Rattle.link_workers.specs.declared.link_reads.TheConstants.{MOST_READS}
use Rattle.link_workers.specs.Gates.{LetsEach}
use Rattle.link_workers.proofs.Reading.{PutsSome}
use Rattle.link_workers.proofs.reader.put_all.Given as goal

abbrev pub invariant-loop-framer : goal.invariant-loop-framer
invariant-loop-framer g l =
    PutsSome (g.I.Read.remaining l.initial.reader) (g.I.Read.remaining l.reader) (g.G.Gate.refused l.initial.gated.gate) (g.G.Gate.refused l.gated.gate) l.initial.gated.pass l.gated.pass l.framer.octets
    × IsPartial l.framer.octets × (l.framer.failed ≡ false) × (l.gated.limit ≡ l.initial.gated.limit) × (l.reads.made ≤ MOST_READS)
    × LetsEach (g.G.Gate.passed l.initial.gated.gate) (g.G.Gate.passed l.gated.gate) l.initial.gated.pass l.gated.pass

abbrev pub decreases-loop-framer : goal.decreases-loop-framer
decreases-loop-framer g l = MOST_READS - l.reads.made
