-- SPDX-License-Identifier: MIT OR Apache-2.0
use Rattle.std.proofs.Common.{[], refl, arith}
use Rattle.controller_worker.proofs.Courses.{course_still, taken_none}
use Rattle.controller_worker.proofs.worker.CallWorker.ask_clock.Goals as goal

pub returns-clause-course : goal.returns-clause-course
returns-clause-course g c =
    let e = c.elapsed-ms.ensures in
    course_still [] _ _ refl refl refl (λ link. refl) (taken_none c.args.self.now.desk) (let f = c.from.ensures in omega arith)
