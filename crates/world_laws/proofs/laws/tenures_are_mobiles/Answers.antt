-- SPDX-License-Identifier: MIT OR Apache-2.0
use Rattle.world_laws.proofs.OwnerRun.{mobiles_sit_on_theirs_new, one_sends_each_new, tenures_are_owned_new}
use Rattle.world_laws.proofs.laws.tenures_are_mobiles.Goals as goal

pub returns-clause-takes : goal.returns-clause-takes
returns-clause-takes c = tenures_are_owned_new

pub returns-clause-seats : goal.returns-clause-seats
returns-clause-seats c = mobiles_sit_on_theirs_new

pub returns-clause-senders : goal.returns-clause-senders
returns-clause-senders c = one_sends_each_new
