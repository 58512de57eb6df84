-- SPDX-License-Identifier: MIT OR Apache-2.0
use Rattle.world_actors.proofs.Prelude.{◌≡◌, sym, ◌∙◌, true, false, IsSome, OnErr, Some, subst, Takes, Actors}
use Rattle.world_model.specs.Mobiles.{after_air_down, hearing}
use Rattle.world_actors.specs.contracts.network.Network.{the_view}
use Rattle.world_actors.specs.Seats.{reached_by}
use Rattle.world_actors.proofs.Airing.{down_done, down_idle, down_unreached, down_wants}
use Rattle.world_actors.proofs.Sitting.{reaches}
use Rattle.world_actors.proofs.Upper.{with_mobiles}
use Rattle.world_actors.proofs.network.Network.air_down.Goals as goal

pub returns-in_default-clause-ok : goal.returns-in_default-clause-ok
returns-in_default-clause-ok c = down_unreached c.args.self.now c.args.mobile hearing (sym c.reached_by.ensures ∙ c.in_default.is)

pub returns-in_err-hear-in-Some-take-clause-memory : goal.returns-in_err-hear-in-Some-take-clause-memory
returns-in_err-hear-in-Some-take-clause-memory c =
    subst (λ (w : Actors). reached_by w c.args.mobile ≡ Some c.in-Some.tenure → OnErr c.from_residual.result (IsSome (after_air_down w c.args.mobile))) c.self.view_is
    (λ is. down_wants c.from_residual.result (the_view c.self.inside) c.args.mobile c.in-Some.tenure c.in-Some-take.heard (reaches (the_view c.self.inside) c.args.mobile c.in-Some.tenure is) (sym c.take.ensures.message ∙ c.in-Some-take.is))
    (sym c.reached_by.ensures ∙ c.in-Some.is)

pub returns-in_ok-hear-in-Some-take-clause-ok : goal.returns-in_ok-hear-in-Some-take-clause-ok
returns-in_ok-hear-in-Some-take-clause-ok c =
    subst (λ (w : Actors). reached_by w c.args.mobile ≡ Some c.in-Some.tenure → Takes w (after_air_down w c.args.mobile) true (record (with_mobiles (the_view c.self.inside) c.hear.new.self) { stations = c.take.new.self })) c.self.view_is
    (λ is. down_done (the_view c.self.inside) c.args.mobile c.in-Some.tenure c.in-Some-take.heard c.take.new.self c.hear.new.self (reaches (the_view c.self.inside) c.args.mobile c.in-Some.tenure is) (sym c.take.ensures.message ∙ c.in-Some-take.is) c.take.ensures.after c.in_ok-hear-in-Some-take.ensures)
    (sym c.reached_by.ensures ∙ c.in-Some.is)

pub returns-in-None-clause-ok : goal.returns-in-None-clause-ok
returns-in-None-clause-ok c =
    subst (λ (w : Actors). reached_by w c.args.mobile ≡ Some c.in-Some.tenure → Takes w (after_air_down w c.args.mobile) false (record (the_view c.self.inside) { stations = c.take.new.self })) c.self.view_is
    (λ is. down_idle (the_view c.self.inside) c.args.mobile hearing c.in-Some.tenure c.take.new.self (reaches (the_view c.self.inside) c.args.mobile c.in-Some.tenure is) (sym c.take.ensures.message ∙ c.in-None.is) c.take.ensures.after)
    (sym c.reached_by.ensures ∙ c.in-Some.is)
