-- SPDX-License-Identifier: MIT OR Apache-2.0
use Rattle.world_actors.proofs.Prelude.{◌≡◌, OnOk, subst, Actors}
use Rattle.world_model.specs.Stations.{activated}
use Rattle.world_actors.specs.contracts.network.Network.{the_view}
use Rattle.world_actors.proofs.Lines.{activated_is, puts}
use Rattle.world_actors.proofs.network.Network.activate.Goals as goal

pub returns : goal.returns
returns c =
    subst (λ (w : Actors). OnOk c.activate.result (record (the_view c.self.inside) { stations = c.activate.new.self } ≡ activated c.args.at.now w)) c.self.view_is
    (puts c.activate.result (the_view c.self.inside) _ c.activate.new.self _ (activated_is (the_view c.self.inside) c.args.at.now) c.activate.ensures)
