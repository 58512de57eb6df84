-- SPDX-License-Identifier: MIT OR Apache-2.0
use Rattle.std.proofs.Common.{[]}
use Rattle.controller_worker.specs.Seen.{seen}
use Rattle.controller_worker.proofs.Courses.{by_err, course_both, course_both_part, course_none}
use Rattle.controller_worker.proofs.worker.CallWorker.take_all.Goals as goal

pub loop-init : goal.loop-init
loop-init g c = (tt, tt, course_none (seen g.K.Clock.told c.args.self.now), c.requires.valid, c.requires.settled, c.requires.gathered)

pub returns-in_err-turn-clause-course : goal.returns-in_err-turn-clause-course
returns-in_err-turn-clause-course g c =
    by_err c.from_residual.result (seen g.K.Clock.told c.args.self.now) (seen g.K.Clock.told c.turn.new.self) c.from_residual.ensures.0
    (course_both_part (seen g.K.Clock.told c.args.self.now) (seen g.K.Clock.told c.loop.self) (seen g.K.Clock.told c.turn.new.self) c.loop.invariant.2 c.in_err-turn.ensures.course)

pub returns-in_err-rest-clause-course : goal.returns-in_err-rest-clause-course
returns-in_err-rest-clause-course g c =
    by_err c.from_residual-in_err-rest.result (seen g.K.Clock.told c.args.self.now) (seen g.K.Clock.told c.rest.new.self) c.from_residual-in_err-rest.ensures.0
    (course_both_part (seen g.K.Clock.told c.args.self.now) (seen g.K.Clock.told c.turn.new.self) (seen g.K.Clock.told c.rest.new.self)
    (course_both [] (seen g.K.Clock.told c.args.self.now) (seen g.K.Clock.told c.loop.self) (seen g.K.Clock.told c.turn.new.self) c.loop.invariant.2 c.in_ok-turn.ensures.course)
    c.in_err-rest.ensures.course)

pub loop-preserved-in_ok-rest : goal.loop-preserved-in_ok-rest
loop-preserved-in_ok-rest g c = (
  tt,
  tt,
  course_both [] (seen g.K.Clock.told c.args.self.now) (seen g.K.Clock.told c.turn.new.self) (seen g.K.Clock.told c.rest.new.self)
      (course_both [] (seen g.K.Clock.told c.args.self.now) (seen g.K.Clock.told c.loop.self) (seen g.K.Clock.told c.turn.new.self) c.loop.invariant.2 c.in_ok-turn.ensures.course)
      c.in_ok-rest.ensures.course,
  c.in_ok-rest.ensures.valid,
  c.in_ok-rest.ensures.settled,
  c.in_ok-rest.ensures.gathered,
)

pub loop-preserved : goal.loop-preserved
loop-preserved g c = (
  tt,
  tt,
  course_both [] (seen g.K.Clock.told c.args.self.now) (seen g.K.Clock.told c.loop.self) (seen g.K.Clock.told c.turn.new.self) c.loop.invariant.2 c.in_ok-turn.ensures.course,
  c.in_ok-turn.ensures.valid,
  c.in_ok-turn.ensures.settled,
  c.in_ok-turn.ensures.gathered,
)
