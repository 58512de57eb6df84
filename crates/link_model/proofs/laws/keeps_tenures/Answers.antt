-- SPDX-License-Identifier: MIT OR Apache-2.0
use Rattle.link_model.proofs.Tenures.{tenures_calls, Tenures-given}
use Rattle.link_model.proofs.laws.keeps_tenures.Goals as goal

pub returns-clause-made : goal.returns-clause-made
returns-clause-made c base channel calls = tenures_calls channel base calls

pub returns-clause-given : goal.returns-clause-given
returns-clause-given c station channel calls = Tenures-given channel station calls
