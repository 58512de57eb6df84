-- SPDX-License-Identifier: MIT OR Apache-2.0
use Rattle.controller_model.proofs.LifeLaws.OwningLife.{life_linked, life_owns}
use Rattle.controller_model.proofs.life_laws.channels_are_owned.Goals as goal

pub returns-clause-channels : goal.returns-clause-channels
returns-clause-channels c p steps number allowed = life_owns p steps number allowed

pub returns-clause-switch : goal.returns-clause-switch
returns-clause-switch c p steps number from_one = life_linked p steps number from_one
