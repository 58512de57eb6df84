-- SPDX-License-Identifier: MIT OR Apache-2.0
use Rattle.std.proofs.Common.{◌≡◌, ◌+◌, ◌≤◌, ◌++◌, length, vec_len, vec_capacity}
use Rattle.std.specs.Vec.Iter.{into_iter_items, into_iter_len}
use Rattle.station_io.specs.Work.{readings, writings}
use Rattle.station_io.proofs.works.workers.Given as goal

abbrev pub invariant-loop-link : goal.invariant-loop-link
invariant-loop-link g l =
    (goal.iterator-loop-link g).can_next l.link-iterator × (goal.iterator-loop-link g).is_finite l.link-iterator
    × (into_iter_len l.link-iterator ≡ length (into_iter_items l.link-iterator))
    × (into_iter_len l.passes ≡ into_iter_len l.link-iterator) × (into_iter_len l.takers ≡ into_iter_len l.link-iterator)
    × (vec_len l.readings + into_iter_len l.link-iterator ≤ vec_capacity l.readings) × (vec_len l.writings + into_iter_len l.link-iterator ≤ vec_capacity l.writings)
    × (l.readings.items ++ readings l.fn.alloc l.fn.limit (into_iter_items l.link-iterator) (into_iter_items l.passes) ≡ readings l.fn.alloc l.fn.limit l.fn.links.items l.fn.passes.items)
    × (l.writings.items ++ writings l.fn.alloc (into_iter_items l.link-iterator) (into_iter_items l.takers) ≡ writings l.fn.alloc l.fn.links.items l.fn.takers.items)
