-- SPDX-License-Identifier: MIT OR Apache-2.0
use Rattle.world_actors.proofs.Prelude.{◌≡◌, OnOk, subst, Actors}
use Rattle.world_model.specs.Stations.{aired}
use Rattle.world_actors.specs.contracts.network.Network.{the_view}
use Rattle.world_actors.proofs.Lines.{aired_is, puts}
use Rattle.world_actors.proofs.network.Network.put.Goals as goal

pub returns : goal.returns
returns c =
    subst (λ (w : Actors). OnOk c.put.result (record (the_view c.self.inside) { stations = c.put.new.self } ≡ aired c.args.at.now c.args.message w)) c.self.view_is
    (puts c.put.result (the_view c.self.inside) _ c.put.new.self _ (aired_is (the_view c.self.inside) c.args.at.now c.args.message) c.put.ensures)
