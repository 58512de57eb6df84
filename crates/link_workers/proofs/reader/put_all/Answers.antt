-- SPDX-License-Identifier: MIT OR Apache-2.0
use Rattle.std.proofs.Common.{◌≡◌, rules, Ok, false, true, ap, refl, sym, subst, ◌∙◌, ◌≤◌, arith}
use Rattle.ipa_framing.specs.Frame.{IsPartial}
use Rattle.ipa_framing.specs.Framer.{FramerState}
use Rattle.link_workers.specs.declared.link_reads.TheConstants.{MOST_READS}
use Rattle.link_workers.specs.declared.unread.UnreadLink.TheVariants.{Refused}
use Rattle.link_workers.specs.Reading.{PutsAll, ReadsOn, BreaksOff}
use Rattle.link_workers.specs.Gates.{LetsEach}
use Rattle.link_workers.proofs.Letting.{each_both, each_none}
use Rattle.link_workers.proofs.Reading.{PutsSome, as_error, breaks_more, breaks_read, some_more, some_none}
use Rattle.link_workers.proofs.reader.put_all.Goals as goal

pub loop-framer-init : goal.loop-framer-init
loop-framer-init g c =
    subst
    (λ (f : FramerState).
    PutsSome (g.I.Read.remaining c.args.reader.now) (g.I.Read.remaining c.args.reader.now) (g.G.Gate.refused c.args.gated.now.gate) (g.G.Gate.refused c.args.gated.now.gate) c.args.gated.now.pass c.args.gated.now.pass f.octets
    × IsPartial f.octets × (f.failed ≡ false) × (c.args.gated.now.limit ≡ c.args.gated.now.limit) × (c.none-reads.result.made ≤ MOST_READS)
    × LetsEach (g.G.Gate.passed c.args.gated.now.gate) (g.G.Gate.passed c.args.gated.now.gate) c.args.gated.now.pass c.args.gated.now.pass)
    (sym c.new-framer.ensures) (some_none _ _ c.args.gated.now.pass, tt, refl, refl, omega (arith, c.none-reads.ensures), each_none _ c.args.gated.now.pass)

pub returns-in_err-read_on-clause-puts : goal.returns-in_err-read_on-clause-puts
returns-in_err-read_on-clause-puts g c =
    as_error c.from_residual.result c.in_err-read_on.field-0.0
    (PutsAll (g.I.Read.remaining c.args.reader.now) (g.I.Read.remaining c.read_on.new.reader) c.args.gated.now.limit (g.G.Gate.refused c.args.gated.now.gate) (g.G.Gate.refused c.loop-framer.gated.gate) c.args.gated.now.pass
    c.loop-framer.gated.pass)
    c.from_residual.ensures.1
    (breaks_read _ _ _ c.args.gated.now.limit _ _ c.args.gated.now.pass c.loop-framer.gated.pass c.loop-framer.framer c.read_on.new.framer c.in_err-read_on.field-0.0 c.loop-framer.invariant.0 c.loop-framer.invariant.1
    c.in_err-read_on.ensures.octets)

pub returns-in_err-put_frames-clause-puts : goal.returns-in_err-put_frames-clause-puts
returns-in_err-put_frames-clause-puts g c =
    let later = g.G.Gate.refused c.put_frames.new.gated.gate in
    let more : c.in_ok-read_on.field-0 ≡ true = search rules in
    let read = subst (λ more. ReadsOn (g.I.Read.remaining c.loop-framer.reader) (g.I.Read.remaining c.read_on.new.reader) c.loop-framer.framer c.read_on.new.framer (Ok more)) more c.in_ok-read_on.ensures.octets in
    as_error c.from_residual-in_err-put_frames.result (Refused c.in_err-put_frames.field-0.0)
    (PutsAll (g.I.Read.remaining c.args.reader.now) (g.I.Read.remaining c.read_on.new.reader) c.args.gated.now.limit (g.G.Gate.refused c.args.gated.now.gate) later c.args.gated.now.pass c.put_frames.new.gated.pass)
    c.from_residual-in_err-put_frames.ensures.1
    (breaks_more _ _ _ c.args.gated.now.limit _ _ later c.args.gated.now.pass c.loop-framer.gated.pass c.put_frames.new.gated.pass c.loop-framer.framer c.read_on.new.framer c.put_frames.new.framer c.in_err-put_frames.field-0.0
    c.loop-framer.invariant.0 read
    (subst (λ limit. BreaksOff c.read_on.new.framer.octets limit (g.G.Gate.refused c.loop-framer.gated.gate) later c.loop-framer.gated.pass c.put_frames.new.gated.pass c.in_err-put_frames.field-0.0) c.loop-framer.invariant.3
    c.in_err-put_frames.ensures.puts))

pub returns-in_err-put_frames-clause-each : goal.returns-in_err-put_frames-clause-each
returns-in_err-put_frames-clause-each g c = each_both _ _ _ c.args.gated.now.pass c.loop-framer.gated.pass c.put_frames.new.gated.pass c.loop-framer.invariant.5 c.put_frames.ensures.each

pub loop-framer-preserved : goal.loop-framer-preserved
loop-framer-preserved g c =
    let more : c.in_ok-read_on.field-0 ≡ true = search rules in
    let read = subst (λ more. ReadsOn (g.I.Read.remaining c.loop-framer.reader) (g.I.Read.remaining c.read_on.new.reader) c.loop-framer.framer c.read_on.new.framer (Ok more)) more c.in_ok-read_on.ensures.octets in
    let puts = c.in_ok-put_frames.ensures.puts in (
      some_more _ _ _ _ _ _ c.args.gated.now.pass c.loop-framer.gated.pass c.put_frames.new.gated.pass c.loop-framer.framer c.read_on.new.framer c.put_frames.new.framer c.loop-framer.invariant.0 read puts.0,
      puts.1,
      puts.2 ∙ ap (λ (f : FramerState). f.failed) read.2 ∙ c.loop-framer.invariant.2,
      c.in_ok-put_frames.ensures.same ∙ c.loop-framer.invariant.3,
      c.read_on.ensures.bounded,
      each_both _ _ _ c.args.gated.now.pass c.loop-framer.gated.pass c.put_frames.new.gated.pass c.loop-framer.invariant.5 c.put_frames.ensures.each,
    )
