-- SPDX-License-Identifier: MIT OR Apache-2.0
use Rattle.world_laws.proofs.Channels.RoleAcks.{old_channels_end_new}
use Rattle.world_laws.proofs.channel_laws.old_channels_end.Goals as goal

pub returns : goal.returns
returns c = old_channels_end_new
