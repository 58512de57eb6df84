-- SPDX-License-Identifier: MIT OR Apache-2.0
use Rattle.world_actors.proofs.Prelude.{◌≡◌, OnOk, subst, Actors}
use Rattle.world_model.specs.Stations.{released}
use Rattle.world_actors.specs.contracts.network.Network.{the_view}
use Rattle.world_actors.proofs.Lines.{released_is, puts}
use Rattle.world_actors.proofs.network.Network.release.Goals as goal

pub returns : goal.returns
returns c =
    subst (λ (w : Actors). OnOk c.release.result (record (the_view c.self.inside) { stations = c.release.new.self } ≡ released c.args.at.now w)) c.self.view_is
    (puts c.release.result (the_view c.self.inside) _ c.release.new.self _ (released_is (the_view c.self.inside) c.args.at.now) c.release.ensures)
