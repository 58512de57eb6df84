-- SPDX-License-Identifier: MIT OR Apache-2.0
use Rattle.world_actors.proofs.Prelude.{◌≡◌, OnOk, Some, subst, Actors}
use Rattle.world_model.specs.Relay.{after_tick}
use Rattle.world_actors.specs.contracts.network.Network.{the_view}
use Rattle.world_actors.proofs.Turning.{tick_puts, with_relay}
use Rattle.world_actors.proofs.network.Network.tick.Goals as goal

pub returns : goal.returns
returns c =
    subst (λ (w : Actors). OnOk c.tick.result (after_tick w c.args.ms ≡ Some (with_relay (the_view c.self.inside) c.tick.new.self))) c.self.view_is
    (tick_puts c.tick.result (the_view c.self.inside) c.args.ms c.tick.new.self c.tick.ensures)
