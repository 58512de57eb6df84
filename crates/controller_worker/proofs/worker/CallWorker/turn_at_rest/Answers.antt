-- SPDX-License-Identifier: MIT OR Apache-2.0
use Rattle.controller_worker.specs.Seen.{seen}
use Rattle.controller_worker.proofs.Courses.{course_none}
use Rattle.controller_worker.proofs.worker.CallWorker.turn_at_rest.Goals as goal

pub returns-then-not-is_at_rest-clause-course : goal.returns-then-not-is_at_rest-clause-course
returns-then-not-is_at_rest-clause-course g c = course_none (seen g.K.Clock.told c.args.self.now)
