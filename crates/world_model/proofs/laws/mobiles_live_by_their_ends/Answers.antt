-- SPDX-License-Identifier: MIT OR Apache-2.0
use Rattle.world_model.proofs.Mobility.{MobilesLive-new}
use Rattle.world_model.proofs.laws.mobiles_live_by_their_ends.Goals as goal

pub returns : goal.returns
returns c = MobilesLive-new
