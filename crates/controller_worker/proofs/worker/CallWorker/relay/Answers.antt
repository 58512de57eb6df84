-- SPDX-License-Identifier: MIT OR Apache-2.0
use Rattle.controller_worker.specs.Seen.{seen}
use Rattle.controller_worker.proofs.Courses.{by_both}
use Rattle.controller_worker.proofs.worker.CallWorker.relay.Goals as goal

pub returns-clause-course : goal.returns-clause-course
returns-clause-course g c =
    by_both c.end_meanwhile.result (seen g.K.Clock.told c.args.self.now) (seen g.K.Clock.told c.take_all.new.self) (seen g.K.Clock.told c.end_meanwhile.new.self)
    c.in_ok-take_all.ensures.course c.end_meanwhile.ensures.course
