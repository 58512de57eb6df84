-- SPDX-License-Identifier: MIT OR Apache-2.0
use Rattle.world_laws.proofs.Channels.RoleAcks.{acknowledgements_agree_new}
use Rattle.world_laws.proofs.channel_laws.acknowledgements_agree.Goals as goal

pub returns : goal.returns
returns c = acknowledgements_agree_new
