-- SPDX-License-Identifier: MIT OR Apache-2.0
use Rattle.world_actors.proofs.Prelude.{sym, ◌∙◌, subst, true, false, Takes, Actors}
use Rattle.world_model.specs.Relay.{after_handle}
use Rattle.world_actors.specs.contracts.network.Network.{the_view}
use Rattle.world_actors.proofs.Turning.{handle_done, handle_idle, handle_wants, with_relay}
use Rattle.world_actors.proofs.network.Network.handle.Goals as goal

pub returns-in-None-clause-ok : goal.returns-in-None-clause-ok
returns-in-None-clause-ok c =
    subst (λ (w : Actors). Takes w (after_handle w) false (with_relay (the_view c.self.inside) c.take_item.new.self)) c.self.view_is
    (handle_idle (the_view c.self.inside) c.take_item.new.self (sym c.take_item.ensures.item ∙ c.in-None.is) c.take_item.ensures.after)

pub returns-in_ok-handle_item-in-Some-clause-ok : goal.returns-in_ok-handle_item-in-Some-clause-ok
returns-in_ok-handle_item-in-Some-clause-ok c =
    subst (λ (w : Actors). Takes w (after_handle w) true c.handle_item.new.self) c.self.view_is
    (handle_done (the_view c.self.inside) c.in-Some.item c.take_item.new.self c.handle_item.new.self (sym c.take_item.ensures.item ∙ c.in-Some.is) c.take_item.ensures.after c.in_ok-handle_item-in-Some.ensures)

pub returns-in_err-handle_item-in-Some-clause-memory : goal.returns-in_err-handle_item-in-Some-clause-memory
returns-in_err-handle_item-in-Some-clause-memory c =
    handle_wants c.from_residual.result c.args.self.now (the_view c.self.inside) c.in-Some.item c.self.view_is (sym c.take_item.ensures.item ∙ c.in-Some.is)
