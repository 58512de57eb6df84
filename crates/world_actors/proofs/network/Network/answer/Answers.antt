-- SPDX-License-Identifier: MIT OR Apache-2.0
use Rattle.world_actors.proofs.Prelude.{◌≡◌, ◌&&◌, Bool, OnOk, subst, Actors, tenure_at}
use Rattle.world_model.specs.Stations.{accepts, answered, asked_for_link, mobile_on}
use Rattle.world_model.specs.World.{is_active_at}
use Rattle.world_actors.specs.contracts.network.Network.{the_view}
use Rattle.world_actors.proofs.Lines.{answered_is, puts}
use Rattle.world_actors.proofs.network.Network.answer.Goals as goal

pub returns : goal.returns
returns c =
    subst (λ (w : Actors). c.accepts_link-answer.result ≡ (is_active_at w c.args.at && accepts (mobile_on w (tenure_at w c.args.at))) → OnOk c.answer.result (record (the_view c.self.inside) { stations = c.answer.new.self } ≡ asked_for_link c.args.at w)) c.self.view_is
    (λ is. subst (λ (b : Bool). OnOk c.answer.result (record (the_view c.self.inside) { stations = c.answer.new.self } ≡ answered b c.args.at (the_view c.self.inside))) is
    (puts c.answer.result (the_view c.self.inside) _ c.answer.new.self _ (answered_is (the_view c.self.inside) c.accepts_link-answer.result c.args.at) c.answer.ensures))
    c.accepts_link-answer.ensures
