-- SPDX-License-Identifier: MIT OR Apache-2.0
use Rattle.controller_model.proofs.Decides.{decision_is}
use Rattle.controller_model.proofs.laws.decision_is_one.Goals as goal

pub returns : goal.returns
returns c = decision_is
