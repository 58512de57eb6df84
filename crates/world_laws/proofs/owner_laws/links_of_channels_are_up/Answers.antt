-- SPDX-License-Identifier: MIT OR Apache-2.0
use Rattle.world_laws.proofs.Owners.LinkEnds.{links_of_channels_are_up_new}
use Rattle.world_laws.proofs.owner_laws.links_of_channels_are_up.Goals as goal

pub returns : goal.returns
returns c = links_of_channels_are_up_new
