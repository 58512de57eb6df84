-- SPDX-License-Identifier: MIT OR Apache-2.0
use Rattle.world_laws.proofs.Targets.FreeQuiet.{channels_are_settled_new, free_channels_are_quiet_new}
use Rattle.world_laws.proofs.target_laws.free_channels_are_quiet.Goals as goal

pub returns-clause-settled : goal.returns-clause-settled
returns-clause-settled c = channels_are_settled_new

pub returns-clause-quiet : goal.returns-clause-quiet
returns-clause-quiet c = free_channels_are_quiet_new
