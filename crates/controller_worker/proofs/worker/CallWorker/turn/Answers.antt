-- SPDX-License-Identifier: MIT OR Apache-2.0
use Rattle.std.proofs.Common.{[]}
use Rattle.controller_worker.specs.Seen.{seen}
use Rattle.controller_worker.proofs.Courses.{by_both, by_err, course_both, course_both_part}
use Rattle.controller_worker.proofs.worker.CallWorker.turn.Goals as goal

pub returns-in_err-try_if_due-clause-course : goal.returns-in_err-try_if_due-clause-course
returns-in_err-try_if_due-clause-course g c =
    by_err c.from_residual-in_err-try_if_due.result (seen g.K.Clock.told c.args.self.now) (seen g.K.Clock.told c.try_if_due.new.self) c.from_residual-in_err-try_if_due.ensures.0
    (course_both_part (seen g.K.Clock.told c.args.self.now) (seen g.K.Clock.told c.pass_time.new.self) (seen g.K.Clock.told c.try_if_due.new.self) c.in_ok-pass_time.ensures.course
    c.in_err-try_if_due.ensures.course)

pub returns-clause-course : goal.returns-clause-course
returns-clause-course g c =
    by_both c.take.result (seen g.K.Clock.told c.args.self.now) (seen g.K.Clock.told c.try_if_due.new.self) (seen g.K.Clock.told c.take.new.self)
    (course_both [] (seen g.K.Clock.told c.args.self.now) (seen g.K.Clock.told c.pass_time.new.self) (seen g.K.Clock.told c.try_if_due.new.self) c.in_ok-pass_time.ensures.course
    c.in_ok-try_if_due.ensures.course) c.take.ensures.course
