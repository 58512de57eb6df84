-- SPDX-License-Identifier: MIT OR Apache-2.0
use Rattle.controller_model.proofs.LifeLaws.UsingLife.{life_uses}
use Rattle.controller_model.proofs.life_laws.channels_are_used.Goals as goal

pub returns : goal.returns
returns c p steps allowed = life_uses p steps allowed
