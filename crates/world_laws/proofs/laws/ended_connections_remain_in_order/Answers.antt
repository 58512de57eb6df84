-- SPDX-License-Identifier: MIT OR Apache-2.0
use Rattle.world_laws.proofs.Ending.{ended_are_in_order_new, ended_remain_in_order_new, line_ups_may_end_new}
use Rattle.world_laws.proofs.laws.ended_connections_remain_in_order.Goals as goal

pub returns-clause-ends : goal.returns-clause-ends
returns-clause-ends c = line_ups_may_end_new

pub returns-clause-in_order : goal.returns-clause-in_order
returns-clause-in_order c = ended_remain_in_order_new

pub returns-clause-accepted : goal.returns-clause-accepted
returns-clause-accepted c = ended_are_in_order_new
