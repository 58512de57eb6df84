-- SPDX-License-Identifier: MIT OR Apache-2.0
use Rattle.world_laws.proofs.InOrder.{line_ups_are_in_order_new}
use Rattle.world_laws.proofs.laws.line_ups_are_in_order.Goals as goal

pub returns : goal.returns
returns c = line_ups_are_in_order_new
