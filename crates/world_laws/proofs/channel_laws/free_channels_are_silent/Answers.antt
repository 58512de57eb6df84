-- SPDX-License-Identifier: MIT OR Apache-2.0
use Rattle.world_laws.proofs.Channels.Silence.{free_are_silent_new}
use Rattle.world_laws.proofs.channel_laws.free_channels_are_silent.Goals as goal

pub returns : goal.returns
returns c = free_are_silent_new
