-- SPDX-License-Identifier: MIT OR Apache-2.0
use Rattle.world_model.proofs.Honesty.{AreHonest-new}
use Rattle.world_model.proofs.laws.stations_are_honest.Goals as goal

pub returns : goal.returns
returns c = AreHonest-new
