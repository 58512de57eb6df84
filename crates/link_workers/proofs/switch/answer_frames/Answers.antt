-- SPDX-License-Identifier: MIT OR Apache-2.0
use Rattle.std.proofs.Common.{Ok, subst, ◌∙◌, ◌++◌, ◌∷◌, []}
use Rattle.ipa_framing.specs.Framer.{Takes}
use Rattle.link_workers.specs.Switching.{AnswersWhole}
use Rattle.link_workers.proofs.Answering.{answers_more, stops_answering}
use Rattle.link_workers.proofs.Reading.{as_error}
use Rattle.link_workers.proofs.switch.answer_frames.Goals as goal

pub returns-in_err-answer : goal.returns-in_err-answer
returns-in_err-answer g c =
    let takes = subst (λ found. Takes c.loop-frame.framer (Ok found) c.next.new.self) c.in-Some.is c.in_ok-frame.ensures in
    let fault = c.in_err-answer.field-0.0 in
    as_error c.from_residual-in_err-answer.result fault
    (AnswersWhole c.args.framer.now c.next.new.self (g.O.Write.contents c.args.writer.now) (g.O.Write.contents c.answer.new.writer) c.args.switch.now c.answer.new.switch)
    c.from_residual-in_err-answer.ensures.1
    (stops_answering c.args.framer.now.octets (g.O.Write.contents c.args.writer.now) (g.O.Write.contents c.loop-frame.writer) (g.O.Write.contents c.answer.new.writer) c.args.switch.now c.loop-frame.switch c.answer.new.switch
    c.loop-frame.framer.octets c.in-Some.frame c.next.new.self.octets fault c.loop-frame.invariant.0 takes.0 c.in_err-answer.ensures)

pub loop-frame-preserved : goal.loop-frame-preserved
loop-frame-preserved g c =
    let takes = subst (λ found. Takes c.loop-frame.framer (Ok found) c.next.new.self) c.in-Some.is c.in_ok-frame.ensures in
    let some = c.loop-frame.invariant.0 in (
      (
        some.0 ++ c.in-Some.frame ∷ [],
        answers_more c.args.framer.now.octets (g.O.Write.contents c.args.writer.now) (g.O.Write.contents c.loop-frame.writer) (g.O.Write.contents c.answer.new.writer) c.args.switch.now c.loop-frame.switch c.answer.new.switch
            some.0 c.loop-frame.framer.octets c.in-Some.frame c.next.new.self.octets some.1 takes.0 c.in_ok-answer.ensures,
      ),
      takes.1 ∙ c.loop-frame.invariant.1,
    )
