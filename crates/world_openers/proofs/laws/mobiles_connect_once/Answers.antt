-- SPDX-License-Identifier: MIT OR Apache-2.0
use Rattle.world_openers.proofs.Connecting.{mobiles_connect_once_new}
use Rattle.world_openers.proofs.laws.mobiles_connect_once.Goals as goal

pub returns : goal.returns
returns c = mobiles_connect_once_new
