-- SPDX-License-Identifier: MIT OR Apache-2.0
use Rattle.controller_worker.specs.Seen.{seen}
use Rattle.controller_worker.proofs.Courses.{course_none}
use Rattle.controller_worker.proofs.worker.CallWorker.try_if_due.Goals as goal

pub returns-clause-course : goal.returns-clause-course
returns-clause-course g c = course_none (seen g.K.Clock.told c.args.self.now)
