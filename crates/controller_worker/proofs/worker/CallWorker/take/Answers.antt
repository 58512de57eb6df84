-- SPDX-License-Identifier: MIT OR Apache-2.0
use Rattle.std.proofs.Common.{[], refl, sym, subst, arith}
use Rattle.controller_model.specs.declared.step.Step.TheVariants.{Take}
use Rattle.controller_worker.specs.Advancing.{AdvancesPartly}
use Rattle.controller_worker.specs.Seen.{seen}
use Rattle.controller_worker.specs.Taking.{HasTaken}
use Rattle.controller_worker.proofs.Courses.{by_err, course_both, course_both_part, course_still, taken_none}
use Rattle.controller_worker.proofs.Turns.{code_taken, course_lost, room_for, settled_taken}
use Rattle.controller_worker.proofs.worker.CallWorker.take.Goals as goal

pub returns-in_default-clause-course : goal.returns-in_default-clause-course
returns-in_default-clause-course g c =
    course_still [] (seen g.K.Clock.told c.args.self.now) _ refl refl refl (λ link. refl)
    (subst (λ d. HasTaken c.args.self.now.desk [] d) (sym c.in_default.ensures.takes) (taken_none c.args.self.now.desk)) refl

pub returns-in_err-gives_up-clause-course : goal.returns-in_err-gives_up-clause-course
returns-in_err-gives_up-clause-course g c =
    by_err c.from_residual.result (seen g.K.Clock.told c.args.self.now) (seen g.K.Clock.told c.do_step.new.self) c.from_residual.ensures.0
    (subst (λ y. AdvancesPartly (seen g.K.Clock.told c.args.self.now) y) (sym c.in_err-gives_up.ensures.err)
    (course_lost (seen g.K.Clock.told c.args.self.now) c.next_item.new.desk c.in-Some.item c.in-Some.ensures.same c.in-Some.ensures.takes c.in_err-gives_up.ensures.memory))

pub note-requires : goal.note-requires
note-requires g c =
    let room = room_for (seen g.K.Clock.told c.args.self.now) c.next_item.new.desk (seen g.K.Clock.told c.do_step.new.self) c.in-Some.item c.in-Some.ensures.takes c.in_ok-gives_up.ensures.ok c.requires.valid in
    let e = c.from-source.ensures in omega (arith, c.do_step.new.self.marks.ok.0)

pub settle-requires-clause-settled : goal.settle-requires-clause-settled
settle-requires-clause-settled g c =
    let room = room_for (seen g.K.Clock.told c.args.self.now) c.next_item.new.desk (seen g.K.Clock.told c.do_step.new.self) c.in-Some.item c.in-Some.ensures.takes c.in_ok-gives_up.ensures.ok c.requires.valid in
    let e = c.from-source.ensures in
    λ h.
    settled_taken (Take c.in-Some.item) (seen g.K.Clock.told c.args.self.now) c.next_item.new.desk (seen g.K.Clock.told c.do_step.new.self) c.is_down-is_down.result c.from-source.result c.note.new.marks.items
    c.requires.settled c.in_ok-gives_up.ensures.ok (c.in_ok-gives_up.ensures.remain h) (omega arith) c.note.ensures

pub returns-in_err-settle-clause-course : goal.returns-in_err-settle-clause-course
returns-in_err-settle-clause-course g c =
    by_err c.from_residual-in_err-settle.result (seen g.K.Clock.told c.args.self.now) (seen g.K.Clock.told c.settle.new.self) c.from_residual-in_err-settle.ensures.0
    (course_both_part (seen g.K.Clock.told c.args.self.now) _ (seen g.K.Clock.told c.settle.new.self)
    (code_taken (seen g.K.Clock.told c.args.self.now) c.next_item.new.desk (seen g.K.Clock.told c.do_step.new.self) c.in-Some.item c.is_down-is_down.result c.from-source.result c.note.new.marks.items c.requires.settled
    c.in-Some.ensures.same c.in-Some.ensures.takes c.in_ok-gives_up.ensures.ok c.is_down-is_down.ensures.0 c.requires.valid c.from-source.ensures c.note.ensures) c.in_err-settle.ensures.course)

pub returns-clause-course : goal.returns-clause-course
returns-clause-course g c =
    course_both [] (seen g.K.Clock.told c.args.self.now) _ (seen g.K.Clock.told c.settle.new.self)
    (code_taken (seen g.K.Clock.told c.args.self.now) c.next_item.new.desk (seen g.K.Clock.told c.do_step.new.self) c.in-Some.item c.is_down-is_down.result c.from-source.result c.note.new.marks.items c.requires.settled
    c.in-Some.ensures.same c.in-Some.ensures.takes c.in_ok-gives_up.ensures.ok c.is_down-is_down.ensures.0 c.requires.valid c.from-source.ensures c.note.ensures) c.in_ok-settle.ensures.course
