-- SPDX-License-Identifier: MIT OR Apache-2.0
use Rattle.world_laws.proofs.Acknowledged.{all_acks_show_end_new, acks_flow_new}
use Rattle.world_laws.proofs.laws.acknowledgements_show_the_end.Goals as goal

pub returns-clause-ends : goal.returns-clause-ends
returns-clause-ends c = all_acks_show_end_new

pub returns-clause-flow : goal.returns-clause-flow
returns-clause-flow c = acks_flow_new
