-- SPDX-License-Identifier: MIT OR Apache-2.0
use Rattle.controller_model.proofs.LifeLaws.NamingLife.{life_names}
use Rattle.controller_model.proofs.life_laws.assignments_name_their_mobile.Goals as goal

pub returns : goal.returns
returns c p steps s number from_one = life_names p steps s number from_one
