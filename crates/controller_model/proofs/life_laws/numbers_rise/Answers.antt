-- SPDX-License-Identifier: MIT OR Apache-2.0
use Rattle.controller_model.proofs.Prelude.{arith}
use Rattle.controller_model.proofs.LifeLaws.Lives.{life_fits}
use Rattle.controller_model.proofs.life_laws.numbers_rise.Goals as goal

pub returns : goal.returns
returns c p steps = (life_fits p steps 1 (omega arith)).numbered
