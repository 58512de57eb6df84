-- SPDX-License-Identifier: MIT OR Apache-2.0
use Rattle.world_laws.proofs.Order.Whole.{runs_are_in_order}
use Rattle.world_laws.proofs.order_laws.runs_are_in_order.Goals as goal

pub returns : goal.returns
returns c = runs_are_in_order
