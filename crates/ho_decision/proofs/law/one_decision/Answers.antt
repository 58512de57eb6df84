-- SPDX-License-Identifier: MIT OR Apache-2.0
use Rattle.ho_decision.proofs.Unique.{one_decision}
use Rattle.ho_decision.proofs.law.one_decision.Goals as goal

pub returns : goal.returns
returns c = one_decision
