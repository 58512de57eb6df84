-- SPDX-License-Identifier: MIT OR Apache-2.0
use Rattle.controller_model.proofs.LifeLaws.UsingLife.{life_reaches}
use Rattle.controller_model.proofs.life_laws.frames_go_to_links_that_are_up.Goals as goal

pub returns : goal.returns
returns c p steps s allowed = life_reaches p steps s allowed
