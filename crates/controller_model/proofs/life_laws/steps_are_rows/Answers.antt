-- SPDX-License-Identifier: MIT OR Apache-2.0
use Rattle.controller_model.proofs.LifeLaws.Lives.{life_acts}
use Rattle.controller_model.proofs.life_laws.steps_are_rows.Goals as goal

pub returns : goal.returns
returns c p steps s number from_one = life_acts p steps s number from_one
