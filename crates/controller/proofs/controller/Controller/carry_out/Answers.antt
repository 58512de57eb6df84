-- SPDX-License-Identifier: MIT OR Apache-2.0
use Rattle.controller.proofs.Prelude.{◌++◌, map, into_iter_items, each}
use Rattle.controller.specs.Many.{carried_out, planned_for}
use Rattle.controller.proofs.Carrying.{left_after}
use Rattle.controller.proofs.controller.Controller.carry_out.Goals as goal

pub loop-one-preserved : goal.loop-one-preserved
loop-one-preserved c = (
  tt,
  tt,
  left_after c.loop-one.self c.carry_out_one.new.self c.loop-one.outputs.outs c.carry_out_one.new.outputs.outs c.loop-one.outputs.spare c.carry_out_one.new.outputs.spare c.in-Some.one
      (into_iter_items c.loop-one.one-iterator) (into_iter_items c.next.new.self) (each carried_out c.args.self.now (map planned_for c.args.planned.items)).next (c.args.outputs.now.outs ++ (each carried_out c.args.self.now (map planned_for c.args.planned.items)).outs)
      c.in-Some.ensures.steps.0 c.loop-one.invariant.2 c.carry_out_one.ensures.turns c.carry_out_one.ensures.room,
)
