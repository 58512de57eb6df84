-- SPDX-License-Identifier: MIT OR Apache-2.0
use Rattle.std.proofs.Common.{◌≡◌, ◌<◌, [], length}
use Rattle.controller_worker.specs.declared.limits.TheConstants.{MAX_WAITING}
use Rattle.controller_worker.specs.Advancing.{SendsSome}
use Rattle.controller_worker.proofs.sending.make_room.Given as goal

abbrev pub invariant-loop : goal.invariant-loop
invariant-loop g l =
    (goal.iterator-loop g).can_next l.iterator' × (goal.iterator-loop g).is_finite l.iterator' × SendsSome l.fn.putter l.fn.waiting [] l.putter l.waiting
    × (length l.fn.waiting < MAX_WAITING → (l.waiting ≡ l.fn.waiting) × (l.putter ≡ l.fn.putter))
