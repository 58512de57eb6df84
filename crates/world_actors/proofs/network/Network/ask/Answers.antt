-- SPDX-License-Identifier: MIT OR Apache-2.0
use Rattle.world_actors.proofs.Prelude.{◌≡◌, OnOk, subst, channel_required, with_message_made, Actors}
use Rattle.world_actors.specs.contracts.network.Network.{the_view}
use Rattle.world_actors.proofs.Coming.{ask_puts, required_written}
use Rattle.world_actors.proofs.network.Network.ask.Goals as goal

pub tell-requires-clause-written : goal.tell-requires-clause-written
tell-requires-clause-written c = required_written c.random_access.result c.args.mobile c.random_access.ensures

pub returns : goal.returns
returns c =
    subst (λ (w : Actors). OnOk c.tell.result (record (the_view c.self.inside) { stations = c.tell.new.self } ≡ with_message_made c.args.station (channel_required c.args.mobile) w)) c.self.view_is
    (ask_puts c.tell.result (the_view c.self.inside) c.args.station c.random_access.result c.args.mobile c.tell.new.self c.random_access.ensures c.tell.ensures)
