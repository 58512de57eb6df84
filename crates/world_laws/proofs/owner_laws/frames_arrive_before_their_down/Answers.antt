-- SPDX-License-Identifier: MIT OR Apache-2.0
use Rattle.world_laws.proofs.Owners.LinkEnds.{links_end_once_new}
use Rattle.world_laws.proofs.owner_laws.frames_arrive_before_their_down.Goals as goal

pub returns : goal.returns
returns c = links_end_once_new
