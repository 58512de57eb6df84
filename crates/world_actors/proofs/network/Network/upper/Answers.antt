-- SPDX-License-Identifier: MIT OR Apache-2.0
use Rattle.world_actors.proofs.Prelude.{IsSome, OnErr, subst, Takes, Actors}
use Rattle.std.proofs.Common.{IfOk}
use Rattle.world_model.specs.Mobiles.{after_upper}
use Rattle.world_actors.specs.contracts.network.Network.{the_view}
use Rattle.world_actors.proofs.Upper.{upper_takes, upper_wants, with_mobiles}
use Rattle.world_actors.proofs.network.Network.upper.Goals as goal

pub returns-clause-ok : goal.returns-clause-ok
returns-clause-ok c =
    subst (λ (w : Actors). IfOk c.send.result (λ taken. Takes w (after_upper w c.args.mobile c.args.sapi c.args.message.now) taken (with_mobiles (the_view c.self.inside) c.send.new.self))) c.self.view_is
    (upper_takes c.send.result (the_view c.self.inside) c.args.mobile c.args.sapi c.args.message.now c.send.new.self c.send.ensures.ok)

pub returns-clause-memory : goal.returns-clause-memory
returns-clause-memory c =
    subst (λ (w : Actors). OnErr c.send.result (IsSome (after_upper w c.args.mobile c.args.sapi c.args.message.now))) c.self.view_is
    (upper_wants c.send.result (the_view c.self.inside) c.args.mobile c.args.sapi c.args.message.now c.send.ensures.memory)
