-- SPDX-License-Identifier: MIT OR Apache-2.0
use Rattle.world_model.proofs.Completing.{complete_is_first_new}
use Rattle.world_model.proofs.laws.complete_is_first.Goals as goal

pub returns : goal.returns
returns c = complete_is_first_new
