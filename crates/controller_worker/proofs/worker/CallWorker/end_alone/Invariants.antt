-- SPDX-License-Identifier: MIT OR Apache-2.0
use Rattle.std.proofs.Common.{◌≡◌, length}
use Rattle.controller_worker.specs.Advancing.{AdvancesAlone}
use Rattle.controller_worker.specs.Seen.{seen}
use Rattle.controller_worker.proofs.worker.CallWorker.end_alone.Given as goal

abbrev pub invariant-loop : goal.invariant-loop
invariant-loop g l =
    (goal.iterator-loop g).can_next l.iterator' × (goal.iterator-loop g).is_finite l.iterator'
    × AdvancesAlone (seen g.K.Clock.told l.fn.self) (seen g.K.Clock.told l.self) × (length l.self.marks.items ≡ length l.self.putters.items)
