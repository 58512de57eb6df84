-- SPDX-License-Identifier: MIT OR Apache-2.0
use Rattle.world_actors.proofs.Prelude.{◌≡◌, sym, ◌∙◌, true, subst, Takes, Actors, is_station_up}
use Rattle.world_model.specs.Mobiles.{after_connecting}
use Rattle.world_actors.specs.contracts.network.Network.{the_view}
use Rattle.world_actors.specs.Seats.{is_new_by}
use Rattle.world_actors.proofs.Coming.{connect_done, connect_down, connect_known, connect_unlawful, connect_wants}
use Rattle.world_actors.proofs.network.Network.connect.Goals as goal

pub returns-then-not-is_new-clause-ok : goal.returns-then-not-is_new-clause-ok
returns-then-not-is_new-clause-ok c = connect_known c.args.self.now c.args.mobile c.args.station c.args.initial.now c.args.accepts_sapi_three (sym c.is_new.ensures ∙ c.if-not-is_new.true)

pub returns-then-not-is_station_up-clause-ok : goal.returns-then-not-is_station_up-clause-ok
returns-then-not-is_station_up-clause-ok c = connect_down c.args.self.now c.args.mobile c.args.station c.args.initial.now c.args.accepts_sapi_three (sym c.is_new.ensures ∙ c.if-not-is_new.false) (sym c.is_station_up.ensures ∙ c.if-not-is_station_up.true)

pub returns-then-not-is_initial-clause-ok : goal.returns-then-not-is_initial-clause-ok
returns-then-not-is_initial-clause-ok c = connect_unlawful c.args.self.now c.args.mobile c.args.station c.args.initial.now c.args.accepts_sapi_three (sym c.is_new.ensures ∙ c.if-not-is_new.false) (sym c.is_station_up.ensures ∙ c.if-not-is_station_up.false) (sym c.is_initial.ensures ∙ c.if-not-is_initial.true)

pub returns-in_err-connect-clause-memory : goal.returns-in_err-connect-clause-memory
returns-in_err-connect-clause-memory c = connect_wants c.from_residual.result c.args.self.now c.args.mobile c.args.station c.args.initial.now c.args.accepts_sapi_three (sym c.is_new.ensures ∙ c.if-not-is_new.false) (sym c.is_station_up.ensures ∙ c.if-not-is_station_up.false) (sym c.is_initial.ensures ∙ c.if-not-is_initial.false)

pub returns-in_err-ask-clause-memory : goal.returns-in_err-ask-clause-memory
returns-in_err-ask-clause-memory c = connect_wants c.from_residual-in_err-ask.result c.args.self.now c.args.mobile c.args.station c.args.initial.now c.args.accepts_sapi_three (sym c.is_new.ensures ∙ c.if-not-is_new.false) (sym c.is_station_up.ensures ∙ c.if-not-is_station_up.false) (sym c.is_initial.ensures ∙ c.if-not-is_initial.false)

pub returns-clause-ok : goal.returns-clause-ok
returns-clause-ok c =
    subst (λ (w : Actors). is_new_by w c.args.mobile ≡ true → is_station_up w c.args.station ≡ true → Takes w (after_connecting w c.args.mobile c.args.station c.args.initial.now c.args.accepts_sapi_three) true c.ask.new.self) c.self.view_is
    (λ new up. connect_done (the_view c.self.inside) c.args.mobile c.args.station c.args.initial.now c.args.accepts_sapi_three c.connect.new.self c.ask.new.self new up (sym c.is_initial.ensures ∙ c.if-not-is_initial.false) c.in_ok-connect.ensures c.in_ok-ask.ensures)
    (sym c.is_new.ensures ∙ c.if-not-is_new.false) (sym c.is_station_up.ensures ∙ c.if-not-is_station_up.false)
