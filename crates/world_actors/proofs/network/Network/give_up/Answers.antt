-- SPDX-License-Identifier: MIT OR Apache-2.0
use Rattle.world_actors.proofs.Prelude.{◌≡◌, sym, ◌∙◌, true, Some, subst, Takes, Actors, is_reached}
use Rattle.world_model.specs.Mobiles.{after_return}
use Rattle.world_actors.specs.contracts.network.Network.{the_view}
use Rattle.world_actors.specs.Seats.{moving_from, of_seat}
use Rattle.world_actors.proofs.Departing.{going_back, is_between, seat_done, seat_unmoved, seat_unreached, seat_wants}
use Rattle.world_actors.proofs.Upper.{with_mobiles}
use Rattle.world_actors.proofs.network.Network.give_up.Goals as goal

pub returns-in_default-clause-ok : goal.returns-in_default-clause-ok
returns-in_default-clause-ok c = seat_unmoved going_back c.args.self.now c.args.mobile (sym c.moving.ensures ∙ c.in_default.is)

pub returns-then-not-is_reached-clause-ok : goal.returns-then-not-is_reached-clause-ok
returns-then-not-is_reached-clause-ok c =
    seat_unreached going_back c.args.self.now c.args.mobile c.in-Some.departure (sym c.moving.ensures ∙ c.in-Some.is) (sym c.is_reached.ensures ∙ c.if-not-is_reached.true)

pub give_up-requires : goal.give_up-requires
give_up-requires c =
    is_between (the_view c.self.inside) c.args.mobile c.in-Some.departure (subst (λ (w : Actors). of_seat moving_from w c.args.mobile ≡ Some c.in-Some.departure) (sym c.self.view_is) (sym c.moving.ensures ∙ c.in-Some.is))

pub returns-in_err-establish-clause-memory : goal.returns-in_err-establish-clause-memory
returns-in_err-establish-clause-memory c =
    seat_wants c.from_residual.result going_back c.args.self.now c.args.mobile c.in-Some.departure (sym c.moving.ensures ∙ c.in-Some.is) (sym c.is_reached.ensures ∙ c.if-not-is_reached.false)

pub returns-in_err-give_up-clause-memory : goal.returns-in_err-give_up-clause-memory
returns-in_err-give_up-clause-memory c =
    seat_wants c.from_residual-in_err-give_up.result going_back c.args.self.now c.args.mobile c.in-Some.departure (sym c.moving.ensures ∙ c.in-Some.is) (sym c.is_reached.ensures ∙ c.if-not-is_reached.false)

pub returns-clause-ok : goal.returns-clause-ok
returns-clause-ok c =
    subst (λ (w : Actors). of_seat moving_from w c.args.mobile ≡ Some c.in-Some.departure → is_reached w c.in-Some.departure.from ≡ true → Takes w (after_return w c.args.mobile) true (record (with_mobiles (the_view c.self.inside) c.give_up.new.self) { stations = c.establish.new.self })) c.self.view_is
    (λ is reached. seat_done going_back (the_view c.self.inside) c.args.mobile c.in-Some.departure c.establish.new.self c.give_up.new.self is reached c.in_ok-establish.ensures c.in_ok-give_up.ensures)
    (sym c.moving.ensures ∙ c.in-Some.is) (sym c.is_reached.ensures ∙ c.if-not-is_reached.false)
