-- SPDX-License-Identifier: MIT OR Apache-2.0
use Rattle.controller.proofs.Prelude.{◌++◌, map, into_iter_items, each}
use Rattle.controller.specs.Many.{carried_out, planned_for}
use Rattle.controller.proofs.Carrying.{IsLeft}
use Rattle.controller.proofs.controller.Controller.carry_out.Given as goal

-- what is left makes the same as all do
abbrev pub invariant-loop-one : goal.invariant-loop-one
invariant-loop-one l =
    (goal.iterator-loop-one).can_next l.one-iterator × (goal.iterator-loop-one).is_finite l.one-iterator
    × IsLeft l.self l.outputs.outs l.outputs.spare (into_iter_items l.one-iterator) (each carried_out l.fn.self (map planned_for l.fn.planned.items)).next (l.fn.outputs.outs ++ (each carried_out l.fn.self (map planned_for l.fn.planned.items)).outs)
