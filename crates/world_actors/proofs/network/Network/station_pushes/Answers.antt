-- SPDX-License-Identifier: MIT OR Apache-2.0
use Rattle.world_actors.proofs.Prelude.{sym, ◌∙◌, subst, false, Takes, Actors, base_of}
use Rattle.link_model.specs.Base.{first_message}
use Rattle.world_model.specs.Relay.{pushed_by_station}
use Rattle.world_actors.specs.contracts.network.Network.{the_view}
use Rattle.world_actors.proofs.Pushing.{push_idle}
use Rattle.world_actors.proofs.network.Network.station_pushes.Goals as goal

pub returns-in-None-clause-ok : goal.returns-in-None-clause-ok
returns-in-None-clause-ok c =
    subst (λ (w : Actors). Takes w (pushed_by_station c.args.station (first_message (base_of w c.args.station)) w) false (record (the_view c.self.inside) { stations = c.next.new.self })) c.self.view_is
    (push_idle (the_view c.self.inside) c.args.station c.next.new.self (sym c.next.ensures.message ∙ c.in-None.is) c.next.ensures.after)
