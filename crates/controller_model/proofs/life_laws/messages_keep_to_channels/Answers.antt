-- SPDX-License-Identifier: MIT OR Apache-2.0
use Rattle.controller_model.proofs.LifeLaws.Placed.{life_placed}
use Rattle.controller_model.proofs.life_laws.messages_keep_to_channels.Goals as goal

pub returns : goal.returns
returns c p steps s number allowed from_one = life_placed p steps s number allowed from_one
