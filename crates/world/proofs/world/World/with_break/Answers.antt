-- SPDX-License-Identifier: MIT OR Apache-2.0
use Rattle.std.proofs.Common.{rules}
use Rattle.settings.specs.Parameters.{AreAllowed}
use Rattle.world.specs.Headline.Begins.{controlled}
use Rattle.world.proofs.Made.{in_order_broken, made_broken}
use Rattle.world.proofs.world.World.with_break.Goals as goal

pub returns-clause-begins : goal.returns-clause-begins
returns-clause-begins c =
    let allowed : AreAllowed c.args.settings = search rules in
    controlled c.args.settings allowed

pub returns-clause-made : goal.returns-clause-made
returns-clause-made c =
    let allowed : AreAllowed c.args.settings = search rules in
    made_broken c.broken.result c.args.settings c.args.events.now c.args.place c.args.source allowed c.are_of_octets.ensures c.broken.ensures.world

pub returns-clause-in_order : goal.returns-clause-in_order
returns-clause-in_order c =
    let allowed : AreAllowed c.args.settings = search rules in
    in_order_broken c.broken.result c.args.settings c.args.events.now c.args.place c.args.source allowed c.are_of_octets.ensures c.broken.ensures.world
