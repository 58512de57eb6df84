-- SPDX-License-Identifier: MIT OR Apache-2.0
use Rattle.controller_model.proofs.LifeLaws.Lives.{life_fits}
use Rattle.controller_model.proofs.LifeLaws.Silence.{remains_silent}
use Rattle.controller_model.proofs.LifeLaws.SilenceLife.{life_is_silent}
use Rattle.controller_model.proofs.life_laws.silence_is_kept.Goals as goal
use Rattle.controller_model.specs.Life.{life}

pub returns-clause-steps : goal.returns-clause-steps
returns-clause-steps c p steps number from_one = life_is_silent p steps number from_one

pub returns-clause-end : goal.returns-clause-end
returns-clause-end c p steps rest number from_one less over = remains_silent number (life p steps).next rest from_one (life_fits p steps number from_one) less over
