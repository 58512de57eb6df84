-- SPDX-License-Identifier: MIT OR Apache-2.0
use Rattle.std.proofs.Common.{◌≡◌, vec_len}
use Rattle.controller_worker.specs.Advancing.{Ends}
use Rattle.controller_worker.specs.Seen.{seen}
use Rattle.controller_worker.proofs.worker.CallWorker.put_ends.Given as goal

abbrev pub invariant-loop-link : goal.invariant-loop-link
invariant-loop-link g l = Ends (seen g.K.Clock.told l.fn.self) (seen g.K.Clock.told l.self) × (l.link ≡ l.self.ended) × (vec_len l.self.putters ≡ vec_len l.fn.self.putters)
