-- SPDX-License-Identifier: MIT OR Apache-2.0
use Rattle.controller_model.proofs.LifeLaws.SoundLife.{life_sends}
use Rattle.controller_model.proofs.life_laws.frames_are_read_as_put.Goals as goal

pub returns : goal.returns
returns c p steps s allowed octets own = life_sends p steps s allowed octets own
