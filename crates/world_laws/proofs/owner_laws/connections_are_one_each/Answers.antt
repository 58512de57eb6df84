-- SPDX-License-Identifier: MIT OR Apache-2.0
use Rattle.world_laws.proofs.Owners.OneEach.{connections_answer_mobiles_new, connections_are_one_each_new, none_is_answered_again_new}
use Rattle.world_laws.proofs.Owners.OneEach.{none_was_answered_new, requests_arrive_once_new}
use Rattle.world_laws.proofs.owner_laws.connections_are_one_each.Goals as goal

pub returns-clause-answers : goal.returns-clause-answers
returns-clause-answers c = connections_answer_mobiles_new

pub returns-clause-one_each : goal.returns-clause-one_each
returns-clause-one_each c = connections_are_one_each_new

pub returns-clause-once : goal.returns-clause-once
returns-clause-once c = requests_arrive_once_new

pub returns-clause-before : goal.returns-clause-before
returns-clause-before c = none_was_answered_new

pub returns-clause-again : goal.returns-clause-again
returns-clause-again c = none_is_answered_again_new
