-- SPDX-License-Identifier: MIT OR Apache-2.0
use Rattle.world_actors.proofs.Prelude.{◌≡◌, sym, ◌∙◌, true, Some, subst, Takes, Actors, is_reached}
use Rattle.world_model.specs.Mobiles.{after_touch}
use Rattle.world_actors.specs.contracts.network.Network.{the_view}
use Rattle.world_actors.specs.Seats.{moving_from, of_seat}
use Rattle.world_actors.proofs.Departing.{touch_done, touch_other, touch_unmoved, touch_unreached, touch_wants}
use Rattle.world_ends.proofs.Written.{detection_written}
use Rattle.world_actors.proofs.network.Network.touch.Goals as goal

pub returns-in_default-clause-ok : goal.returns-in_default-clause-ok
returns-in_default-clause-ok c = touch_unmoved c.args.self.now c.args.mobile (sym c.moving.ensures ∙ c.in_default.is)

pub returns-then-not-is_to_handover-clause-ok : goal.returns-then-not-is_to_handover-clause-ok
returns-then-not-is_to_handover-clause-ok c =
    touch_other c.args.self.now c.args.mobile c.in-Some.departure (sym c.moving.ensures ∙ c.in-Some.is) (sym c.is_to_handover.ensures ∙ c.if-not-is_to_handover.true)

pub returns-then-not-is_reached-clause-ok : goal.returns-then-not-is_reached-clause-ok
returns-then-not-is_reached-clause-ok c =
    touch_unreached c.args.self.now c.args.mobile c.in-Some.departure (sym c.moving.ensures ∙ c.in-Some.is) (sym c.is_to_handover.ensures ∙ c.if-not-is_to_handover.false) (sym c.is_reached.ensures ∙ c.if-not-is_reached.true)

pub tell-requires-clause-written : goal.tell-requires-clause-written
tell-requires-clause-written c = detection_written c.in-Some.departure.command.target.at.number

pub returns-in_err-tell-clause-memory : goal.returns-in_err-tell-clause-memory
returns-in_err-tell-clause-memory c =
    touch_wants c.from_residual.result c.args.self.now c.args.mobile c.in-Some.departure (sym c.moving.ensures ∙ c.in-Some.is) (sym c.is_to_handover.ensures ∙ c.if-not-is_to_handover.false) (sym c.is_reached.ensures ∙ c.if-not-is_reached.false)

pub returns-clause-ok : goal.returns-clause-ok
returns-clause-ok c =
    subst (λ (w : Actors). of_seat moving_from w c.args.mobile ≡ Some c.in-Some.departure → is_reached w c.in-Some.departure.command.target ≡ true → Takes w (after_touch w c.args.mobile) true (record (the_view c.self.inside) { stations = c.tell.new.self })) c.self.view_is
    (λ is reached. touch_done (the_view c.self.inside) c.args.mobile c.in-Some.departure c.tell.new.self is (sym c.is_to_handover.ensures ∙ c.if-not-is_to_handover.false) reached c.in_ok-tell.ensures)
    (sym c.moving.ensures ∙ c.in-Some.is) (sym c.is_reached.ensures ∙ c.if-not-is_reached.false)
