-- SPDX-License-Identifier: MIT OR Apache-2.0
use Rattle.std.proofs.Common.{◌<◌, []}
use Rattle.controller_worker.specs.declared.limits.TheConstants.{TICK_MS}
use Rattle.controller_worker.specs.Advancing.{Advances, IsSettled, IsValid}
use Rattle.controller_worker.specs.Seen.{seen}
use Rattle.controller_worker.proofs.worker.CallWorker.wait_for_room.Given as goal

abbrev pub invariant-loop : goal.invariant-loop
invariant-loop g l =
    Advances [] (seen g.K.Clock.told l.fn.self) (seen g.K.Clock.told l.self) × IsValid (seen g.K.Clock.told l.self) × IsSettled (seen g.K.Clock.told l.self)
    × (l.self.gathered < TICK_MS)
