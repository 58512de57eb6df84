-- SPDX-License-Identifier: MIT OR Apache-2.0
use Rattle.world.proofs.Made.{in_order_by_one, made_by_one}
use Rattle.world.proofs.world.World.step.Goals as goal

pub returns-clause-made : goal.returns-clause-made
returns-clause-made c = made_by_one c.act.result c.args.self.now c.act.new.self c.args.event c.is_of_octets.ensures c.act.ensures.ok

pub returns-clause-in_order : goal.returns-clause-in_order
returns-clause-in_order c = in_order_by_one c.act.result c.args.self.now c.act.new.self c.args.event c.is_of_octets.ensures c.act.ensures.ok
