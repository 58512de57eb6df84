-- SPDX-License-Identifier: MIT OR Apache-2.0
use Rattle.std.proofs.Common.{◌-◌, sym, ap, subst, arith}
use Rattle.controller_model.specs.declared.step.Step.TheVariants.{Tick}
use Rattle.controller_worker.specs.Advancing.{AdvancesPartly}
use Rattle.controller_worker.specs.Seen.{seen}
use Rattle.controller_worker.proofs.Courses.{by_both, by_err, course_none, part_of_course, stops_alone}
use Rattle.controller_worker.proofs.Turns.{step_ticked}
use Rattle.controller_worker.proofs.worker.CallWorker.tick.Goals as goal

pub returns-in_err-do_step-clause-course : goal.returns-in_err-do_step-clause-course
returns-in_err-do_step-clause-course g c =
    by_err c.from_residual.result (seen g.K.Clock.told c.args.self.now) (seen g.K.Clock.told c.do_step.new.self) c.from_residual.ensures.0
    (subst (λ y. AdvancesPartly (seen g.K.Clock.told c.args.self.now) y) (sym c.in_err-do_step.ensures.err)
    (part_of_course (seen g.K.Clock.told c.args.self.now) (seen g.K.Clock.told c.args.self.now) (course_none (seen g.K.Clock.told c.args.self.now))
    (stops_alone (Tick c.largest_tick-ms.result) (seen g.K.Clock.told c.args.self.now) c.in_err-do_step.ensures.memory (c.requires.due, c.largest_tick-ms.ensures))))

pub returns-clause-course : goal.returns-clause-course
returns-clause-course g c =
    let e = c.largest_tick-ms.ensures in
    let f = c.from.ensures in
    let k = ap (λ s. s.gathered) c.in_ok-do_step.ensures.ok.kept in
    by_both c.add_downs.result (seen g.K.Clock.told c.args.self.now) _ (seen g.K.Clock.told c.add_downs.new.self)
    (step_ticked (seen g.K.Clock.told c.args.self.now) (seen g.K.Clock.told c.do_step.new.self) c.largest_tick-ms.result (c.do_step.new.self.gathered - c.from.result) c.requires.settled c.in_ok-do_step.ensures.ok
    (omega arith)) c.add_downs.ensures.course
