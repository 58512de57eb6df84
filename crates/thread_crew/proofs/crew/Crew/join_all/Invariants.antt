-- SPDX-License-Identifier: MIT OR Apache-2.0
use Rattle.std.proofs.Common.{◌≡◌, ◌+◌, ◌≤◌, length, vec_len, vec_capacity}
use Rattle.std.specs.Vec.Iter.{into_iter_items, into_iter_len}
use Rattle.thread_crew.proofs.Lists.{Joined}
use Rattle.thread_crew.proofs.crew.Crew.join_all.Given as goal

abbrev pub invariant-loop-thread : goal.invariant-loop-thread
invariant-loop-thread g l =
    (goal.iterator-loop-thread g).can_next l.thread-iterator × (goal.iterator-loop-thread g).is_finite l.thread-iterator
    × (into_iter_len l.thread-iterator ≡ length (into_iter_items l.thread-iterator))
    × (vec_len l.done + into_iter_len l.thread-iterator ≤ vec_capacity l.done)
    × Joined g.W.Worker.does (λ t. t.promise.worker.value) l.fn.self (into_iter_items l.thread-iterator) l.all_began l.done.items
