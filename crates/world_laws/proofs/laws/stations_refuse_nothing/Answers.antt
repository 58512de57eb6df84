-- SPDX-License-Identifier: MIT OR Apache-2.0
use Rattle.world_laws.proofs.Refusals.{none_refuse_new}
use Rattle.world_laws.proofs.laws.stations_refuse_nothing.Goals as goal

pub returns : goal.returns
returns c = none_refuse_new
