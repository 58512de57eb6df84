-- SPDX-License-Identifier: MIT OR Apache-2.0
use Rattle.world_actors.proofs.Prelude.{◌≡◌, sym, ◌∙◌, true, IsSome, OnErr, subst, first_in, Takes, Actors, is_station_up, outbox_of}
use Rattle.world_model.specs.Stations.{after_base_takes}
use Rattle.world_actors.specs.contracts.network.Network.{the_view}
use Rattle.world_actors.specs.Taking.{can_take}
use Rattle.world_actors.proofs.Lines.{line_done, line_down, line_refused, line_there, line_wants, not_spent}
use Rattle.world_actors.proofs.network.Network.base_takes.Goals as goal

pub returns-then-not-is_station_up-clause-ok : goal.returns-then-not-is_station_up-clause-ok
returns-then-not-is_station_up-clause-ok c = line_down c.args.self.now c.args.station (sym c.is_station_up.ensures ∙ c.if-not-is_station_up.true)

pub returns-then-not-can_take-clause-ok : goal.returns-then-not-can_take-clause-ok
returns-then-not-can_take-clause-ok c =
    line_refused c.args.self.now c.args.station (sym c.is_station_up.ensures ∙ c.if-not-is_station_up.false) (sym c.can_take.ensures ∙ c.if-not-can_take.true)

pub take_line-requires : goal.take_line-requires
take_line-requires c =
    let can : can_take (the_view c.self.inside) c.args.station (first_in (outbox_of (the_view c.self.inside) c.args.station)) ≡ true
    = subst (λ (w : Actors). can_take w c.args.station (first_in (outbox_of w c.args.station)) ≡ true) (sym c.self.view_is) (sym c.can_take.ensures ∙ c.if-not-can_take.false) in
    not_spent (the_view c.self.inside) c.args.station c.in-Some.entry can (sym c.take_entry.ensures.entry ∙ c.in-Some.is)

pub returns-in_err-take_line-in-Some-clause-memory : goal.returns-in_err-take_line-in-Some-clause-memory
returns-in_err-take_line-in-Some-clause-memory c =
    subst (λ (w : Actors). is_station_up w c.args.station ≡ true → can_take w c.args.station (first_in (outbox_of w c.args.station)) ≡ true → OnErr c.from_residual.result (IsSome (after_base_takes w c.args.station))) c.self.view_is
    (λ up can. line_wants c.from_residual.result (the_view c.self.inside) c.args.station c.in-Some.entry up can (sym c.take_entry.ensures.entry ∙ c.in-Some.is))
    (sym c.is_station_up.ensures ∙ c.if-not-is_station_up.false) (sym c.can_take.ensures ∙ c.if-not-can_take.false)

pub returns-in_ok-take_line-in-Some-clause-ok : goal.returns-in_ok-take_line-in-Some-clause-ok
returns-in_ok-take_line-in-Some-clause-ok c =
    subst (λ (w : Actors). is_station_up w c.args.station ≡ true → Takes w (after_base_takes w c.args.station) true c.take_line.new.self) c.self.view_is
    (λ up. line_done (the_view c.self.inside) c.args.station c.in-Some.entry c.take_entry.new.self c.take_line.new.self up (sym c.take_entry.ensures.entry ∙ c.in-Some.is) c.take_entry.ensures.after c.in_ok-take_line-in-Some.ensures)
    (sym c.is_station_up.ensures ∙ c.if-not-is_station_up.false)

pub returns-in-None-clause-ok : goal.returns-in-None-clause-ok
returns-in-None-clause-ok c =
    let can : can_take (the_view c.self.inside) c.args.station (first_in (outbox_of (the_view c.self.inside) c.args.station)) ≡ true
    = subst (λ (w : Actors). can_take w c.args.station (first_in (outbox_of w c.args.station)) ≡ true) (sym c.self.view_is) (sym c.can_take.ensures ∙ c.if-not-can_take.false) in
    absurd (line_there (the_view c.self.inside) c.args.station can (sym c.take_entry.ensures.entry ∙ c.in-None.is))
