-- SPDX-License-Identifier: MIT OR Apache-2.0
use Rattle.std.proofs.Common.{◌≡◌, length}
use Rattle.controller_worker.specs.Call.{AreNew}
use Rattle.workload_inputs.proofs.relaying.outboxes.Given as goal

abbrev pub invariant-loop : goal.invariant-loop
invariant-loop l = AreNew l.putters.items × (length l.putters.items ≡ l.counter)
