-- SPDX-License-Identifier: MIT OR Apache-2.0
use Rattle.std.proofs.Common.{◌≡◌, ◌+◌, ◌<◌, ◌++◌, ◌∷◌, [], length, arith}
use Rattle.std.proofs.lemmas.Grind.{common_steps}
use Rattle.world_model.specs.World.{new_station}
use Rattle.world_ends.proofs.Numbering.{next_station}
use Rattle.world_ends.proofs.stations.Stations.new.Goals as goal

pub loop-cell-preserved : goal.loop-cell-preserved
loop-cell-preserved c =
    let within : c.loop-cell.cell < length c.args.settings.now.cells = omega (arith, c.cell_count.ensures.value, c.from-cell-end.ensures) in
    let is : c.push.new.self.items ≡ c.loop-cell.stations.items ++ new_station (c.loop-cell.cell + 1) ∷ [] = grind (arith, common_steps, c.in_ok-new.ensures, c.in_ok-push.ensures.items) in
    next_station c.loop-cell.stations.items c.push.new.self.items _ c.loop-cell.cell c.args.settings.now.cells within is c.loop-cell.invariant
