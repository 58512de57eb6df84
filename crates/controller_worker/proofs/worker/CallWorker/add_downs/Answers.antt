-- SPDX-License-Identifier: MIT OR Apache-2.0
use Rattle.std.proofs.Common.{[], length, refl, sym, ap, subst, ◌∙◌}
use Rattle.controller_model.specs.declared.step.Step.TheVariants.{Take}
use Rattle.controller_worker.specs.Advancing.{AdvancesPartly}
use Rattle.controller_worker.specs.Moves.{down_of}
use Rattle.controller_worker.specs.Seen.{seen}
use Rattle.controller_worker.proofs.Courses.{by_err, course_both, course_both_part, course_none, part_of_course, stops_alone}
use Rattle.controller_worker.proofs.Turns.{code_added, length_added, valid_marked}
use Rattle.controller_worker.proofs.worker.CallWorker.add_downs.Goals as goal

pub loop-init : goal.loop-init
loop-init g c = (tt, tt, course_none (seen g.K.Clock.told c.args.self.now), c.requires.valid, refl)

pub loop-preserved : goal.loop-preserved
loop-preserved g c = (
  tt,
  tt,
  course_both [] (seen g.K.Clock.told c.args.self.now) (seen g.K.Clock.told c.loop.self) _ c.loop.invariant.2
      (code_added (seen g.K.Clock.told c.loop.self) (seen g.K.Clock.told c.do_step.new.self) c.in-Some-pending.source c.from.result c.note_added.new.marks.items c.in_ok-do_step.ensures.ok
      c.in-Some-pending.ensures c.loop.invariant.3 c.from.ensures c.note_added.ensures),
  valid_marked (seen g.K.Clock.told c.do_step.new.self) c.note_added.new.marks.items c.in_ok-do_step.ensures.valid
      (ap (λ ms. length ms) c.note_added.ensures ∙ length_added c.from.result c.do_step.new.self.marks.items),
  ap (λ s. s.gathered) c.in_ok-do_step.ensures.ok.kept ∙ c.loop.invariant.4,
)

pub returns-in_err-do_step-clause-course : goal.returns-in_err-do_step-clause-course
returns-in_err-do_step-clause-course g c =
    by_err c.from_residual.result (seen g.K.Clock.told c.args.self.now) (seen g.K.Clock.told c.do_step.new.self) c.from_residual.ensures.0
    (subst (λ y. AdvancesPartly (seen g.K.Clock.told c.args.self.now) y) (sym c.in_err-do_step.ensures.err)
    (course_both_part (seen g.K.Clock.told c.args.self.now) (seen g.K.Clock.told c.loop.self) (seen g.K.Clock.told c.loop.self) c.loop.invariant.2
    (part_of_course (seen g.K.Clock.told c.loop.self) (seen g.K.Clock.told c.loop.self) (course_none (seen g.K.Clock.told c.loop.self))
    (stops_alone (Take (down_of c.in-Some-pending.source)) (seen g.K.Clock.told c.loop.self) c.in_err-do_step.ensures.memory
    (refl, (c.in-Some-pending.ensures.there, c.in-Some-pending.ensures.given_up))))))
