-- SPDX-License-Identifier: MIT OR Apache-2.0
use Rattle.world_model.proofs.Repeating.{mobiles_repeat_at_most_one_new}
use Rattle.world_model.proofs.laws.mobiles_repeat_at_most_one.Goals as goal

pub returns : goal.returns
returns c = mobiles_repeat_at_most_one_new
