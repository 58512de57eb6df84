-- SPDX-License-Identifier: MIT OR Apache-2.0
use Rattle.world_actors.proofs.Prelude.{◌≡◌, sym, ◌∙◌, true, Some, subst, Takes, Actors}
use Rattle.world_model.specs.Mobiles.{after_move}
use Rattle.world_actors.specs.contracts.network.Network.{the_view}
use Rattle.world_actors.specs.Seats.{commanded_from, of_seat}
use Rattle.world_actors.proofs.Departing.{leave_done, leave_idle}
use Rattle.world_actors.proofs.Upper.{with_mobiles}
use Rattle.world_actors.proofs.network.Network.leave.Goals as goal

pub returns-in_default : goal.returns-in_default
returns-in_default c = leave_idle c.args.self.now c.args.mobile (sym c.departure_of.ensures ∙ c.in_default.is)

pub returns : goal.returns
returns c =
    subst (λ (w : Actors). of_seat (commanded_from w) w c.args.mobile ≡ Some c.in-Some.departure → Takes w (after_move w c.args.mobile) true (record (with_mobiles (the_view c.self.inside) c.leave-2.new.self) { stations = c.leave.new.self })) c.self.view_is
    (λ is. leave_done (the_view c.self.inside) c.args.mobile c.in-Some.departure c.leave.new.self c.leave-2.new.self is c.leave.ensures c.leave-2.ensures)
    (sym c.departure_of.ensures ∙ c.in-Some.is)
