-- SPDX-License-Identifier: MIT OR Apache-2.0
use Rattle.std.proofs.Common.{[]}
use Rattle.controller_worker.specs.Seen.{seen}
use Rattle.controller_worker.proofs.Courses.{by_err, course_both, course_both_part}
use Rattle.controller_worker.proofs.worker.CallWorker.pass_time.Goals as goal

pub returns-in_err-tick-clause-course : goal.returns-in_err-tick-clause-course
returns-in_err-tick-clause-course g c =
    by_err c.from_residual.result (seen g.K.Clock.told c.args.self.now) (seen g.K.Clock.told c.tick.new.self) c.from_residual.ensures.0
    (course_both_part (seen g.K.Clock.told c.args.self.now) (seen g.K.Clock.told c.ask_clock.new.self) (seen g.K.Clock.told c.tick.new.self) c.ask_clock.ensures.course c.in_err-tick.ensures.course)

pub returns-in_err-tick-2-clause-course : goal.returns-in_err-tick-2-clause-course
returns-in_err-tick-2-clause-course g c =
    by_err c.from_residual-in_err-tick-2.result (seen g.K.Clock.told c.args.self.now) (seen g.K.Clock.told c.tick-then-self-ge-TICK_MS.new.self) c.from_residual-in_err-tick-2.ensures.0
    (course_both_part (seen g.K.Clock.told c.args.self.now) (seen g.K.Clock.told c.tick.new.self) (seen g.K.Clock.told c.tick-then-self-ge-TICK_MS.new.self)
    (course_both [] (seen g.K.Clock.told c.args.self.now) (seen g.K.Clock.told c.ask_clock.new.self) (seen g.K.Clock.told c.tick.new.self) c.ask_clock.ensures.course c.in_ok-tick.ensures.course)
    c.in_err-tick-2.ensures.course)

pub returns-in_ok-tick-2-clause-course : goal.returns-in_ok-tick-2-clause-course
returns-in_ok-tick-2-clause-course g c =
    course_both [] (seen g.K.Clock.told c.args.self.now) (seen g.K.Clock.told c.tick.new.self) (seen g.K.Clock.told c.tick-then-self-ge-TICK_MS.new.self)
    (course_both [] (seen g.K.Clock.told c.args.self.now) (seen g.K.Clock.told c.ask_clock.new.self) (seen g.K.Clock.told c.tick.new.self) c.ask_clock.ensures.course c.in_ok-tick.ensures.course)
    c.in_ok-tick-2.ensures.course

pub returns-else-self-ge-TICK_MS-clause-course : goal.returns-else-self-ge-TICK_MS-clause-course
returns-else-self-ge-TICK_MS-clause-course g c =
    course_both [] (seen g.K.Clock.told c.args.self.now) (seen g.K.Clock.told c.ask_clock.new.self) (seen g.K.Clock.told c.tick.new.self) c.ask_clock.ensures.course c.in_ok-tick.ensures.course
