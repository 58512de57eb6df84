-- SPDX-License-Identifier: MIT OR Apache-2.0
use Rattle.world_laws.proofs.Channels.BegunRun.{established_are_active_new}
use Rattle.world_laws.proofs.channel_laws.established_channels_are_active.Goals as goal

pub returns : goal.returns
returns c = established_are_active_new
