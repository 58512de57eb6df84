-- SPDX-License-Identifier: MIT OR Apache-2.0
use Rattle.world_actors.proofs.Prelude.{◌≡◌, OnOk, subst, Actors}
use Rattle.world_model.specs.Relay.{target_in}
use Rattle.world_actors.specs.Handling.{after_item}
use Rattle.world_actors.specs.contracts.network.Network.{the_view}
use Rattle.world_actors.proofs.Turning.{item_puts, with_relay}
use Rattle.world_actors.proofs.network.Network.handle_item.Goals as goal

pub returns : goal.returns
returns c =
    subst (λ (w : Actors). c.in_ok-target.target ≡ target_in w c.args.item.source c.args.item.what → OnOk c.handle.result (with_relay (the_view c.self.inside) c.handle.new.self ≡ after_item c.args.item w)) c.self.view_is
    (λ aims. item_puts c.handle.result (the_view c.self.inside) c.args.item c.in_ok-target.target c.handle.new.self aims c.handle.ensures) c.in_ok-target.ensures
