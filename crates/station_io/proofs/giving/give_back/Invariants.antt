-- SPDX-License-Identifier: MIT OR Apache-2.0
use Rattle.std.proofs.Common.{◌≡◌, ◌+◌, ◌≤◌, length, vec_len, vec_capacity}
use Rattle.std.specs.Vec.Iter.{into_iter_items, into_iter_len}
use Rattle.station_io.proofs.GivingBack.{Gives}
use Rattle.station_io.proofs.giving.give_back.Given as goal

abbrev pub invariant-loop-read : goal.invariant-loop-read
invariant-loop-read g l =
    (goal.iterator-loop-read g).can_next l.read-iterator × (goal.iterator-loop-read g).is_finite l.read-iterator
    × (into_iter_len l.read-iterator ≡ length (into_iter_items l.read-iterator))
    × (into_iter_len l.writers ≡ into_iter_len l.read-iterator) × (into_iter_len l.writers ≡ length (into_iter_items l.writers)) × (into_iter_len l.putters ≡ into_iter_len l.read-iterator)
    × (vec_len l.back + into_iter_len l.read-iterator ≤ vec_capacity l.back) × (vec_len l.passes + into_iter_len l.read-iterator ≤ vec_capacity l.passes)
    × Gives (into_iter_items l.read-iterator) l.fn.read.items (into_iter_items l.writers) l.fn.written.items (into_iter_items l.putters) l.fn.called.putters.items l.back.items l.passes.items
