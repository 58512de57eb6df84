-- SPDX-License-Identifier: MIT OR Apache-2.0
use Rattle.std.proofs.Common.{◌≡◌, ◌++◌}
use Rattle.std.specs.List.{All}
use Rattle.std.specs.Vec.Iter.{into_iter_items}
use Rattle.thread_crew.proofs.crew.Crew.start_all.Given as goal

abbrev pub invariant-loop-worker : goal.invariant-loop-worker
invariant-loop-worker g l =
    (goal.iterator-loop-worker g).can_next l.worker-iterator × (goal.iterator-loop-worker g).is_finite l.worker-iterator
    × (l.self ++ into_iter_items l.worker-iterator ≡ l.fn.self ++ l.fn.workers.items) × All g.W.Worker.can_work (into_iter_items l.worker-iterator)
    × ((first : _) × (l.self ≡ l.fn.self ++ first) × (first ++ into_iter_items l.worker-iterator ≡ l.fn.workers.items))
