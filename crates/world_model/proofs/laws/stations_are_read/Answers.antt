-- SPDX-License-Identifier: MIT OR Apache-2.0
use Rattle.world_model.proofs.Heard.{are_read_new}
use Rattle.world_model.proofs.laws.stations_are_read.Goals as goal

pub returns : goal.returns
returns c = are_read_new
