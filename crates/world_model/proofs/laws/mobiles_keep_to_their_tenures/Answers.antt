-- SPDX-License-Identifier: MIT OR Apache-2.0
use Rattle.world_model.proofs.Ticketing.{AllSitBy-new, OneMobileEach-new}
use Rattle.world_model.proofs.laws.mobiles_keep_to_their_tenures.Goals as goal

pub returns-clause-seats : goal.returns-clause-seats
returns-clause-seats c = AllSitBy-new

pub returns-clause-senders : goal.returns-clause-senders
returns-clause-senders c = OneMobileEach-new
