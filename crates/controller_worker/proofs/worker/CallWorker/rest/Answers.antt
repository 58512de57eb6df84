-- SPDX-License-Identifier: MIT OR Apache-2.0
use Rattle.std.proofs.Common.{[], sym, subst}
use Rattle.controller_worker.specs.Advancing.{Advances}
use Rattle.controller_worker.specs.Seen.{seen}
use Rattle.controller_worker.proofs.Courses.{course_none}
use Rattle.controller_worker.proofs.worker.CallWorker.rest.Goals as goal

pub returns-clause-course : goal.returns-clause-course
returns-clause-course g c = subst (λ y. Advances [] (seen g.K.Clock.told c.args.self.now) y) (sym c.sleep.ensures) (course_none (seen g.K.Clock.told c.args.self.now))
