-- SPDX-License-Identifier: MIT OR Apache-2.0
use Rattle.world_laws.proofs.LineUp.Ordering.{ended_alive, ended_sends, ended_takes, ended_loses, is_in_order_ended}
use Rattle.world_laws.proofs.line_up_laws.ended_line_up_remains_in_order.Goals as goal

pub returns-clause-ends : goal.returns-clause-ends
returns-clause-ends c m l alive = ended_alive alive

pub returns-clause-sends : goal.returns-clause-sends
returns-clause-sends c m sent more out taken ended = ended_sends out taken more ended

pub returns-clause-takes : goal.returns-clause-takes
returns-clause-takes c m sent out taken x ended = ended_takes out taken x ended

pub returns-clause-loses : goal.returns-clause-loses
returns-clause-loses c m sent out lost taken ended = ended_loses out lost taken ended

pub returns-clause-accepted : goal.returns-clause-accepted
returns-clause-accepted c m sent out taken two ended = is_in_order_ended out taken two ended
