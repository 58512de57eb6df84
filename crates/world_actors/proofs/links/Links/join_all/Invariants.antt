-- SPDX-License-Identifier: MIT OR Apache-2.0
use Rattle.world_actors.proofs.Prelude.{◌≡◌}
use Rattle.std.specs.Vec.Iter.{into_iter_items}
use Rattle.world_actors.specs.Links.{all_joined_in}
use Rattle.world_actors.proofs.links.Links.join_all.Given as goal

abbrev pub invariant-loop-out : goal.invariant-loop-out
invariant-loop-out l =
    (goal.iterator-loop-out).can_next l.out-iterator × (goal.iterator-loop-out).is_finite l.out-iterator
    × (all_joined_in l.target l.self (into_iter_items l.out-iterator) ≡ all_joined_in l.fn.target l.fn.self l.fn.outs.items)
