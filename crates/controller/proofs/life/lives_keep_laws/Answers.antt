-- SPDX-License-Identifier: MIT OR Apache-2.0
use Rattle.controller.proofs.LifeLaws.{life_keeps_laws, new_keeps_laws}
use Rattle.controller.proofs.life.lives_keep_laws.Goals as goal

pub returns-clause-lives : goal.returns-clause-lives
returns-clause-lives c = life_keeps_laws

pub returns-clause-new : goal.returns-clause-new
returns-clause-new c = new_keeps_laws
