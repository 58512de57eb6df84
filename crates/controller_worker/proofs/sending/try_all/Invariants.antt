-- SPDX-License-Identifier: MIT OR Apache-2.0
use Rattle.std.proofs.Common.{◌≡◌, length, []}
use Rattle.controller_worker.proofs.Outputs.{SomeAll}
use Rattle.controller_worker.proofs.sending.try_all.Given as goal

abbrev pub invariant-loop-link : goal.invariant-loop-link
invariant-loop-link g l =
    (length l.marks.items ≡ length l.putters.items) × (length l.putters.items ≡ length l.fn.putters.items) × SomeAll l.fn.putters.items l.fn.marks.items [] l.putters.items l.marks.items
