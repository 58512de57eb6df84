-- SPDX-License-Identifier: MIT OR Apache-2.0
use Rattle.world_laws.proofs.Channels.BegunRun.{begun_is_taken_new}
use Rattle.world_laws.proofs.channel_laws.begun_channels_are_taken.Goals as goal

pub returns : goal.returns
returns c = begun_is_taken_new
