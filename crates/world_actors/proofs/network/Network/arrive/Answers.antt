-- SPDX-License-Identifier: MIT OR Apache-2.0
use Rattle.world_actors.proofs.Prelude.{◌≡◌, sym, ◌∙◌, true, Some, subst, Takes, Actors, is_reached}
use Rattle.world_model.specs.Mobiles.{after_arriving}
use Rattle.world_actors.specs.contracts.network.Network.{the_view}
use Rattle.world_actors.specs.Seats.{moving_from, of_seat}
use Rattle.world_actors.proofs.Departing.{arrival, is_between, seat_done, seat_unmoved, seat_unreached, seat_wants}
use Rattle.world_actors.proofs.Upper.{with_mobiles}
use Rattle.world_actors.proofs.network.Network.arrive.Goals as goal

pub returns-in_default-clause-ok : goal.returns-in_default-clause-ok
returns-in_default-clause-ok c = seat_unmoved arrival c.args.self.now c.args.mobile (sym c.moving.ensures ∙ c.in_default.is)

pub returns-then-not-is_reached-clause-ok : goal.returns-then-not-is_reached-clause-ok
returns-then-not-is_reached-clause-ok c =
    seat_unreached arrival c.args.self.now c.args.mobile c.in-Some.departure (sym c.moving.ensures ∙ c.in-Some.is) (sym c.is_reached.ensures ∙ c.if-not-is_reached.true)

pub arrive-requires : goal.arrive-requires
arrive-requires c =
    is_between (the_view c.self.inside) c.args.mobile c.in-Some.departure (subst (λ (w : Actors). of_seat moving_from w c.args.mobile ≡ Some c.in-Some.departure) (sym c.self.view_is) (sym c.moving.ensures ∙ c.in-Some.is))

pub returns-in_err-establish-clause-memory : goal.returns-in_err-establish-clause-memory
returns-in_err-establish-clause-memory c =
    seat_wants c.from_residual.result arrival c.args.self.now c.args.mobile c.in-Some.departure (sym c.moving.ensures ∙ c.in-Some.is) (sym c.is_reached.ensures ∙ c.if-not-is_reached.false)

pub returns-in_err-arrive-clause-memory : goal.returns-in_err-arrive-clause-memory
returns-in_err-arrive-clause-memory c =
    seat_wants c.from_residual-in_err-arrive.result arrival c.args.self.now c.args.mobile c.in-Some.departure (sym c.moving.ensures ∙ c.in-Some.is) (sym c.is_reached.ensures ∙ c.if-not-is_reached.false)

pub returns-clause-ok : goal.returns-clause-ok
returns-clause-ok c =
    subst (λ (w : Actors). of_seat moving_from w c.args.mobile ≡ Some c.in-Some.departure → is_reached w c.in-Some.departure.command.target ≡ true → Takes w (after_arriving w c.args.mobile) true (record (with_mobiles (the_view c.self.inside) c.arrive.new.self) { stations = c.establish.new.self })) c.self.view_is
    (λ is reached. seat_done arrival (the_view c.self.inside) c.args.mobile c.in-Some.departure c.establish.new.self c.arrive.new.self is reached c.in_ok-establish.ensures c.in_ok-arrive.ensures)
    (sym c.moving.ensures ∙ c.in-Some.is) (sym c.is_reached.ensures ∙ c.if-not-is_reached.false)
