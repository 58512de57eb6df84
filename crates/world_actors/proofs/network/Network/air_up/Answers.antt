-- SPDX-License-Identifier: MIT OR Apache-2.0
use Rattle.world_actors.proofs.Prelude.{◌≡◌, ℕ, List, ap, sym, ◌∙◌, true, false, IsSome, OnErr, Some, refl, subst, Takes, Actors}
use Rattle.world_actors.proofs.Prelude.{at_station}
use Rattle.world_model.specs.Mobiles.{after_air_up}
use Rattle.world_ends.specs.Stations.{brought_on}
use Rattle.world_actors.specs.contracts.network.Network.{the_view}
use Rattle.world_actors.specs.Seats.{opens_by, reached_by}
use Rattle.world_actors.proofs.Bringing.{up_done, up_idle, up_unreached, up_wants, up_wants_frame}
use Rattle.world_actors.proofs.Upper.{with_mobiles}
use Rattle.world_actors.proofs.network.Network.air_up.Goals as goal

pub returns-in_default-clause-ok : goal.returns-in_default-clause-ok
returns-in_default-clause-ok c = up_unreached c.args.self.now c.args.mobile c.args.sapi (sym c.reached_by.ensures ∙ c.in_default.is)

pub returns-in_err-frame-clause-memory : goal.returns-in_err-frame-clause-memory
returns-in_err-frame-clause-memory c =
    subst (λ (w : Actors). reached_by w c.args.mobile ≡ Some c.in-Some.tenure → OnErr c.from_residual.result (IsSome (after_air_up w c.args.mobile c.args.sapi))) c.self.view_is
    (λ is. up_wants_frame c.from_residual.result c.frame.result _ (the_view c.self.inside) c.args.mobile c.args.sapi c.in-Some.tenure is c.in_err-frame.was c.frame.ensures.memory)
    (sym c.reached_by.ensures ∙ c.in-Some.is)

pub returns-in_err-bring-in-Some-2-clause-memory : goal.returns-in_err-bring-in-Some-2-clause-memory
returns-in_err-bring-in-Some-2-clause-memory c =
    subst (λ (w : Actors). reached_by w c.args.mobile ≡ Some c.in-Some.tenure → OnErr c.from_residual-in_err-bring-in-Some-2.result (IsSome (after_air_up w c.args.mobile c.args.sapi))) c.self.view_is
    (λ is. up_wants c.from_residual-in_err-bring-in-Some-2.result (the_view c.self.inside) c.args.mobile c.args.sapi c.in-Some.tenure (Some c.in-Some-2.frame) is (sym c.in-Some-2.is ∙ c.in_ok-frame.ensures.frame) refl)
    (sym c.reached_by.ensures ∙ c.in-Some.is)

pub returns-in_ok-bring-in-Some-2-clause-ok : goal.returns-in_ok-bring-in-Some-2-clause-ok
returns-in_ok-bring-in-Some-2-clause-ok c =
    subst (λ (w : Actors). reached_by w c.args.mobile ≡ Some c.in-Some.tenure → c.opens-opens.result ≡ opens_by w c.args.mobile → Takes w (after_air_up w c.args.mobile c.args.sapi) true (record (with_mobiles (the_view c.self.inside) c.frame.new.self) { stations = c.bring.new.self })) c.self.view_is
    (λ is opening. up_done (the_view c.self.inside) c.args.mobile c.args.sapi c.in-Some.tenure c.in_ok-frame.field-0 c.in-Some-2.frame c.opens-opens.result c.frame.new.self c.bring.new.self is opening c.in_ok-frame.ensures.frame c.in-Some-2.is c.in_ok-frame.ensures.after
    (c.in_ok-bring-in-Some-2.ensures ∙ ap (λ (frame : List ℕ). at_station c.in-Some.tenure.at.station (brought_on c.in-Some.tenure.at.number c.opens-opens.result c.args.sapi frame) c.self.inside.stations) c.as_slice.ensures))
    (sym c.reached_by.ensures ∙ c.in-Some.is) c.opens-opens.ensures

pub returns-in-None-clause-ok : goal.returns-in-None-clause-ok
returns-in-None-clause-ok c =
    subst (λ (w : Actors). reached_by w c.args.mobile ≡ Some c.in-Some.tenure → Takes w (after_air_up w c.args.mobile c.args.sapi) false (with_mobiles (the_view c.self.inside) c.frame.new.self)) c.self.view_is
    (λ is. up_idle (the_view c.self.inside) c.args.mobile c.args.sapi c.in-Some.tenure c.in_ok-frame.field-0 c.frame.new.self is c.in_ok-frame.ensures.frame c.in-None.is c.in_ok-frame.ensures.after)
    (sym c.reached_by.ensures ∙ c.in-Some.is)
