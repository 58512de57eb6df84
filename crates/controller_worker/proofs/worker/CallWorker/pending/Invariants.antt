-- SPDX-License-Identifier: MIT OR Apache-2.0
use Rattle.controller_worker.specs.Seen.{seen}
use Rattle.controller_worker.proofs.Turns.{IsSettledTo}
use Rattle.controller_worker.proofs.worker.CallWorker.pending.Given as goal

abbrev pub invariant-loop-link : goal.invariant-loop-link
invariant-loop-link g l = IsSettledTo l.link (seen g.K.Clock.told l.fn.self)
