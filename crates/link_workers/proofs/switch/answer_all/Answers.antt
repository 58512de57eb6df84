-- SPDX-License-Identifier: MIT OR Apache-2.0
use Rattle.std.proofs.Common.{◌≡◌, rules, Ok, false, true, ap, refl, sym, subst, ◌∙◌, ◌≤◌, arith}
use Rattle.ipa_framing.specs.Frame.{IsPartial}
use Rattle.ipa_framing.specs.Framer.{FramerState}
use Rattle.link_workers.specs.declared.link_reads.TheConstants.{MOST_READS}
use Rattle.link_workers.specs.declared.unread.UnreadLink.TheVariants.{Refused}
use Rattle.link_workers.specs.Reading.{ReadsOn}
use Rattle.link_workers.specs.Switching.{PlaysSwitch}
use Rattle.link_workers.specs.Unread.{fault_in}
use Rattle.link_workers.proofs.Reading.{as_error}
use Rattle.link_workers.proofs.Answering.{AnswersSome, plays_broken, plays_unread, some_more, some_none}
use Rattle.link_workers.proofs.switch.answer_all.Goals as goal

pub loop-framer-init : goal.loop-framer-init
loop-framer-init g c =
    subst
    (λ (f : FramerState).
    AnswersSome (g.I.Read.remaining c.args.reader.now) (g.I.Read.remaining c.args.reader.now) (g.O.Write.contents c.args.writer.now) (g.O.Write.contents c.args.writer.now) c.args.switch.now c.args.switch.now f.octets
    × IsPartial f.octets × (f.failed ≡ false) × (c.none-reads.result.made ≤ MOST_READS))
    (sym c.new-framer.ensures) (some_none _ _ c.args.switch.now, tt, refl, omega (arith, c.none-reads.ensures))

pub returns-in_err-read_on-clause-plays : goal.returns-in_err-read_on-clause-plays
returns-in_err-read_on-clause-plays g c =
    let unread = c.in_err-read_on.field-0.0 in
    as_error c.from_residual.result unread
    (λ result. PlaysSwitch (g.I.Read.remaining c.args.reader.now) (g.I.Read.remaining c.read_on.new.reader) (g.O.Write.contents c.args.writer.now) (g.O.Write.contents c.loop-framer.writer) c.args.switch.now c.loop-framer.switch (fault_in result))
    c.from_residual.ensures.1
    (plays_unread _ _ _ _ _ c.args.switch.now c.loop-framer.switch c.loop-framer.framer c.read_on.new.framer unread c.loop-framer.invariant.0 c.loop-framer.invariant.1 c.in_err-read_on.ensures.octets)

pub returns-in_err-answer_frames-clause-plays : goal.returns-in_err-answer_frames-clause-plays
returns-in_err-answer_frames-clause-plays g c =
    let more : c.in_ok-read_on.field-0 ≡ true = search rules in
    let read = subst (λ more. ReadsOn (g.I.Read.remaining c.loop-framer.reader) (g.I.Read.remaining c.read_on.new.reader) c.loop-framer.framer c.read_on.new.framer (Ok more)) more c.in_ok-read_on.ensures.octets in
    let fault = c.in_err-answer_frames.field-0.0 in
    as_error c.from_residual-in_err-answer_frames.result (Refused fault)
    (λ result.
    PlaysSwitch (g.I.Read.remaining c.args.reader.now) (g.I.Read.remaining c.read_on.new.reader) (g.O.Write.contents c.args.writer.now) (g.O.Write.contents c.answer_frames.new.writer) c.args.switch.now
    c.answer_frames.new.switch (fault_in result))
    c.from_residual-in_err-answer_frames.ensures.1
    (plays_broken _ _ _ _ (g.O.Write.contents c.loop-framer.writer) _ c.args.switch.now c.loop-framer.switch c.answer_frames.new.switch c.loop-framer.framer c.read_on.new.framer fault c.loop-framer.invariant.0 read
    c.in_err-answer_frames.ensures)

pub loop-framer-preserved : goal.loop-framer-preserved
loop-framer-preserved g c =
    let more : c.in_ok-read_on.field-0 ≡ true = search rules in
    let read = subst (λ more. ReadsOn (g.I.Read.remaining c.loop-framer.reader) (g.I.Read.remaining c.read_on.new.reader) c.loop-framer.framer c.read_on.new.framer (Ok more)) more c.in_ok-read_on.ensures.octets in
    let answers = c.in_ok-answer_frames.ensures in (
      some_more _ _ _ (g.O.Write.contents c.args.writer.now) (g.O.Write.contents c.loop-framer.writer) (g.O.Write.contents c.answer_frames.new.writer) c.args.switch.now c.loop-framer.switch c.answer_frames.new.switch
          c.loop-framer.framer c.read_on.new.framer c.answer_frames.new.framer c.loop-framer.invariant.0 read answers.0,
      answers.1,
      answers.2 ∙ ap (λ (f : FramerState). f.failed) read.2 ∙ c.loop-framer.invariant.2,
      c.read_on.ensures.bounded,
    )
