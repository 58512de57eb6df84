-- SPDX-License-Identifier: MIT OR Apache-2.0
use Rattle.std.proofs.Common.{◌≡◌, ℕ, ◌<◌, true}
use Rattle.controller_worker.specs.Advancing.{mark_at}
use Rattle.controller_worker.proofs.worker.CallWorker.are_all_down.Given as goal

abbrev pub invariant-loop-mark : goal.invariant-loop-mark
invariant-loop-mark g l = (link : ℕ) → link < l.mark-index → (mark_at l.self.marks.items link).down ≡ true
