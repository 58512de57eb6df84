-- SPDX-License-Identifier: MIT OR Apache-2.0
use Rattle.world_actors.proofs.Prelude.{◌≡◌, sym, ◌∙◌, subst, Takes, Actors}
use Rattle.world_model.specs.Mobiles.{after_air_ack}
use Rattle.world_actors.specs.contracts.network.Network.{the_view}
use Rattle.world_actors.specs.Seats.{reached_by}
use Rattle.world_actors.proofs.Airing.{ack_idle, ack_takes}
use Rattle.world_actors.proofs.Sitting.{some_reached, none_reached}
use Rattle.world_actors.proofs.Upper.{with_mobiles}
use Rattle.world_actors.proofs.network.Network.air_ack.Goals as goal

pub returns-then-is_none : goal.returns-then-is_none
returns-then-is_none c = ack_idle c.args.self.now c.args.mobile c.args.sapi (sym c.reached_by.ensures ∙ none_reached c.reached_by.result c.if-is_none.ensures)

pub returns : goal.returns
returns c =
    subst (λ (w : Actors). c.reached_by.result ≡ reached_by w c.args.mobile → Takes w (after_air_ack w c.args.mobile c.args.sapi) c.acknowledge.result (with_mobiles (the_view c.self.inside) c.acknowledge.new.self)) c.self.view_is
    (λ is. ack_takes (the_view c.self.inside) c.args.mobile c.args.sapi c.acknowledge.result c.acknowledge.new.self (some_reached (the_view c.self.inside) c.args.mobile c.reached_by.result is c.if-is_none.ensures) c.acknowledge.ensures)
    c.reached_by.ensures
