-- SPDX-License-Identifier: MIT OR Apache-2.0
use Rattle.world_laws.proofs.LineUp.Ordering.{is_in_order_alive, alive_steps}
use Rattle.world_laws.proofs.line_up_laws.line_up_is_accepted_in_order.Goals as goal

pub returns-clause-alive : goal.returns-clause-alive
returns-clause-alive c m l two alive = is_in_order_alive two alive

pub returns-clause-run : goal.returns-clause-run
returns-clause-run c m before after two alive steps = is_in_order_alive two (alive_steps steps alive)
