-- SPDX-License-Identifier: MIT OR Apache-2.0
use Rattle.std.proofs.Common.{[]}
use Rattle.controller_worker.specs.Seen.{seen}
use Rattle.controller_worker.proofs.Courses.{by_err, course_both, course_both_part, course_none}
use Rattle.controller_worker.proofs.Marking.{course_ends}
use Rattle.controller_worker.proofs.worker.CallWorker.end_meanwhile.Goals as goal

pub loop-init : goal.loop-init
loop-init g c = (tt, tt, course_none (seen g.K.Clock.told c.args.self.now), c.requires.finishes, c.requires.valid.sources, c.requires.valid.marks)

pub returns-then-self-len-clause-course : goal.returns-then-self-len-clause-course
returns-then-self-len-clause-course g c =
    course_ends [] (seen g.K.Clock.told c.args.self.now) (seen g.K.Clock.told c.loop.self) (seen g.K.Clock.told c.put_ends.new.self) c.loop.invariant.2 c.put_ends.ensures

pub returns-in_err-turn_at_rest-clause-course : goal.returns-in_err-turn_at_rest-clause-course
returns-in_err-turn_at_rest-clause-course g c =
    by_err c.from_residual.result (seen g.K.Clock.told c.args.self.now) (seen g.K.Clock.told c.turn_at_rest.new.self) c.from_residual.ensures.0
    (course_both_part (seen g.K.Clock.told c.args.self.now) (seen g.K.Clock.told c.put_ends.new.self) (seen g.K.Clock.told c.turn_at_rest.new.self)
    (course_ends [] (seen g.K.Clock.told c.args.self.now) (seen g.K.Clock.told c.loop.self) (seen g.K.Clock.told c.put_ends.new.self) c.loop.invariant.2 c.put_ends.ensures)
    c.in_err-turn_at_rest.ensures.course)

pub loop-preserved : goal.loop-preserved
loop-preserved g c = (
  tt,
  tt,
  course_both [] (seen g.K.Clock.told c.args.self.now) (seen g.K.Clock.told c.put_ends.new.self) (seen g.K.Clock.told c.turn_at_rest.new.self)
      (course_ends [] (seen g.K.Clock.told c.args.self.now) (seen g.K.Clock.told c.loop.self) (seen g.K.Clock.told c.put_ends.new.self) c.loop.invariant.2 c.put_ends.ensures)
      c.in_ok-turn_at_rest.ensures.course,
  c.in_ok-turn_at_rest.ensures.finishes,
  c.in_ok-turn_at_rest.ensures.sources,
  c.in_ok-turn_at_rest.ensures.marks,
)
