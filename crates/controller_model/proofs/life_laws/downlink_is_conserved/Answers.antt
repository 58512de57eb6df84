-- SPDX-License-Identifier: MIT OR Apache-2.0
use Rattle.controller_model.proofs.LifeLaws.DownlinkLaw.{life_conserves}
use Rattle.controller_model.proofs.life_laws.downlink_is_conserved.Goals as goal

pub returns : goal.returns
returns c p steps number from_one = life_conserves p steps number from_one
