-- SPDX-License-Identifier: MIT OR Apache-2.0
use Rattle.std.proofs.Common.{[], ◌<◌, sym, subst, arith}
use Rattle.controller_worker.specs.declared.limits.TheConstants.{TICK_MS}
use Rattle.controller_worker.specs.Advancing.{Advances, IsSettled, IsValid}
use Rattle.controller_worker.specs.Seen.{seen}
use Rattle.controller_worker.proofs.Courses.{by_err, course_both, course_both_part, course_none}
use Rattle.controller_worker.proofs.worker.CallWorker.wait_for_room.Goals as goal

pub loop-init : goal.loop-init
loop-init g c = (
  subst (λ y. Advances [] (seen g.K.Clock.told c.args.self.now) y) (sym c.ring.ensures) (course_none (seen g.K.Clock.told c.args.self.now)),
  subst (λ y. IsValid y) (sym c.ring.ensures) c.requires.valid,
  subst (λ y. IsSettled y) (sym c.ring.ensures) c.requires.settled,
  subst (λ y. y.gathered < TICK_MS) (sym c.ring.ensures) c.requires.gathered,
)

pub returns-in_err-try_outboxes-clause-course : goal.returns-in_err-try_outboxes-clause-course
returns-in_err-try_outboxes-clause-course g c =
    by_err c.from_residual.result (seen g.K.Clock.told c.args.self.now) (seen g.K.Clock.told c.try_outboxes.new.self) c.from_residual.ensures.0
    (course_both_part (seen g.K.Clock.told c.args.self.now) (seen g.K.Clock.told c.loop.self) (seen g.K.Clock.told c.try_outboxes.new.self) c.loop.invariant.0 c.in_err-try_outboxes.ensures.course)

pub returns-then-not-self-clause-course : goal.returns-then-not-self-clause-course
returns-then-not-self-clause-course g c =
    course_both [] (seen g.K.Clock.told c.args.self.now) (seen g.K.Clock.told c.loop.self) (seen g.K.Clock.told c.try_outboxes.new.self) c.loop.invariant.0 c.in_ok-try_outboxes.ensures.course

pub returns-in_err-was_taken-clause-course : goal.returns-in_err-was_taken-clause-course
returns-in_err-was_taken-clause-course g c =
    by_err c.from_residual-in_err-was_taken.result (seen g.K.Clock.told c.args.self.now) (seen g.K.Clock.told c.take.new.self) c.from_residual-in_err-was_taken.ensures.0
    (course_both_part (seen g.K.Clock.told c.args.self.now) (seen g.K.Clock.told c.try_outboxes.new.self) (seen g.K.Clock.told c.take.new.self)
    (course_both [] (seen g.K.Clock.told c.args.self.now) (seen g.K.Clock.told c.loop.self) (seen g.K.Clock.told c.try_outboxes.new.self) c.loop.invariant.0 c.in_ok-try_outboxes.ensures.course) c.in_err-was_taken.ensures.course)

pub returns-then-was_taken-clause-course : goal.returns-then-was_taken-clause-course
returns-then-was_taken-clause-course g c =
    course_both [] (seen g.K.Clock.told c.args.self.now) (seen g.K.Clock.told c.try_outboxes.new.self) (seen g.K.Clock.told c.take.new.self)
    (course_both [] (seen g.K.Clock.told c.args.self.now) (seen g.K.Clock.told c.loop.self) (seen g.K.Clock.told c.try_outboxes.new.self) c.loop.invariant.0 c.in_ok-try_outboxes.ensures.course) c.in_ok-was_taken.ensures.course

pub loop-preserved : goal.loop-preserved
loop-preserved g c = (
  course_both [] (seen g.K.Clock.told c.args.self.now) (seen g.K.Clock.told c.try_outboxes.new.self) (seen g.K.Clock.told c.take.new.self)
      (course_both [] (seen g.K.Clock.told c.args.self.now) (seen g.K.Clock.told c.loop.self) (seen g.K.Clock.told c.try_outboxes.new.self) c.loop.invariant.0 c.in_ok-try_outboxes.ensures.course) c.in_ok-was_taken.ensures.course,
  c.in_ok-was_taken.ensures.valid,
  c.in_ok-was_taken.ensures.settled,
  let a = c.in_ok-was_taken.ensures.gathered in let b = c.in_ok-try_outboxes.ensures.gathered in let d = c.loop.invariant.3 in omega arith,
)

pub returns-clause-course : goal.returns-clause-course
returns-clause-course g c = c.loop.invariant.0
