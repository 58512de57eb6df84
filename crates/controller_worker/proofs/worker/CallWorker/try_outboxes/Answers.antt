-- SPDX-License-Identifier: MIT OR Apache-2.0
use Rattle.controller_worker.specs.Seen.{seen}
use Rattle.controller_worker.proofs.Courses.{by_both}
use Rattle.controller_worker.proofs.worker.CallWorker.try_outboxes.Goals as goal

pub returns-clause-course : goal.returns-clause-course
returns-clause-course g c =
    by_both c.add_downs.result (seen g.K.Clock.told c.args.self.now) (seen g.K.Clock.told c.put_waiting.new.self) (seen g.K.Clock.told c.add_downs.new.self) c.put_waiting.ensures.course.0
    c.add_downs.ensures.course
