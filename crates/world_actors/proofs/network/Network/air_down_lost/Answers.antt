-- SPDX-License-Identifier: MIT OR Apache-2.0
use Rattle.world_actors.proofs.Prelude.{◌≡◌, sym, ◌∙◌, Some, subst, Takes, Actors}
use Rattle.world_model.specs.Mobiles.{after_air_down_lost, ignored}
use Rattle.world_actors.specs.contracts.network.Network.{the_view}
use Rattle.world_actors.specs.Seats.{reached_by}
use Rattle.world_actors.proofs.Airing.{down_unreached, lost_takes}
use Rattle.world_actors.proofs.Sitting.{reaches}
use Rattle.world_actors.proofs.network.Network.air_down_lost.Goals as goal

pub returns-in_default : goal.returns-in_default
returns-in_default c = down_unreached c.args.self.now c.args.mobile ignored (sym c.reached_by.ensures ∙ c.in_default.is)

pub returns : goal.returns
returns c =
    subst (λ (w : Actors). reached_by w c.args.mobile ≡ Some c.in-Some.tenure → Takes w (after_air_down_lost w c.args.mobile) c.is_some.result (record (the_view c.self.inside) { stations = c.take.new.self })) c.self.view_is
    (λ is. lost_takes (the_view c.self.inside) c.args.mobile c.in-Some.tenure c.take.result c.is_some.result c.take.new.self (reaches (the_view c.self.inside) c.args.mobile c.in-Some.tenure is) c.take.ensures.message c.is_some.ensures c.take.ensures.after)
    (sym c.reached_by.ensures ∙ c.in-Some.is)
