-- SPDX-License-Identifier: MIT OR Apache-2.0
use Rattle.controller_model.proofs.LifeLaws.UplinkLife.{life_conserves_up}
use Rattle.controller_model.proofs.life_laws.uplink_is_conserved.Goals as goal

pub returns : goal.returns
returns c p steps number allowed from_one = life_conserves_up p steps number allowed from_one
