-- SPDX-License-Identifier: MIT OR Apache-2.0
use Rattle.controller_worker.specs.Seen.{seen}
use Rattle.controller_worker.proofs.Turns.{course_tried}
use Rattle.controller_worker.proofs.worker.CallWorker.put_waiting.Goals as goal

pub returns-clause-course : goal.returns-clause-course
returns-clause-course g c = course_tried (seen g.K.Clock.told c.args.self.now) c.try_all-self.new.putters.items c.try_all-self.new.marks.items c.try_all-self.ensures.0 c.try_all-self.ensures.1
