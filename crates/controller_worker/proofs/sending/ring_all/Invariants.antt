-- SPDX-License-Identifier: MIT OR Apache-2.0
use Rattle.std.proofs.Common.{◌≡◌}
use Rattle.controller_worker.proofs.sending.ring_all.Given as goal

abbrev pub invariant-loop-link : goal.invariant-loop-link
invariant-loop-link l = l.putters.items ≡ l.initial.putters.items
