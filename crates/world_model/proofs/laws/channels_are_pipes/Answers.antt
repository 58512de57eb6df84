-- SPDX-License-Identifier: MIT OR Apache-2.0
use Rattle.world_model.proofs.Piping.{ArePipes-new}
use Rattle.world_model.proofs.laws.channels_are_pipes.Goals as goal

pub returns : goal.returns
returns c = ArePipes-new
