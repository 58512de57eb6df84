-- SPDX-License-Identifier: MIT OR Apache-2.0
use Rattle.std.proofs.Common.{◌≡◌, ◌+◌, ◌++◌, drop}
use Rattle.world_model.specs.World.{stations_from}
use Rattle.world_ends.proofs.stations.Stations.new.Given as goal

abbrev pub invariant-loop-cell : goal.invariant-loop-cell
invariant-loop-cell l = l.stations.items ++ stations_from (l.cell + 1) (drop l.cell l.settings.cells) ≡ stations_from 1 l.settings.cells
