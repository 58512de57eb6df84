-- SPDX-License-Identifier: MIT OR Apache-2.0
use Rattle.std.proofs.Common.{◌≡◌, ◌++◌, sym, ap, ◌∙◌, subst, arith}
use Rattle.std.proofs.lemmas.Grind.{common_steps}
use Rattle.world.specs.WorldState.{WorldState}
use Rattle.world.specs.World.{after_all, controlled_world}
use Rattle.world.specs.Headline.{QueuesKeepOrder}
use Rattle.world.proofs.ControlledQueues.{QueuesKeepOrder-reached}
use Rattle.world.proofs.Made.{in_order, made_more}
use Rattle.world.proofs.Order.{after_all-append}
use Rattle.world.proofs.world.World.run.Goals as goal

pub returns-clause-made : goal.returns-clause-made
returns-clause-made c begin before made =
    let ran : c.loop-event.self ≡ after_all c.args.self.now c.args.events.now = grind (arith, common_steps) in
    made_more begin c.args.self.now c.loop-event.self before c.args.events.now c.are_of_octets.ensures ran made

pub returns-clause-in_order : goal.returns-clause-in_order
returns-clause-in_order c begin before made =
    let ran : c.loop-event.self ≡ after_all c.args.self.now c.args.events.now = grind (arith, common_steps) in
    in_order begin c.loop-event.self (before ++ c.args.events.now) (made_more begin c.args.self.now c.loop-event.self before c.args.events.now c.are_of_octets.ensures ran made)

pub returns-clause-queues : goal.returns-clause-queues
returns-clause-queues c settings before reached =
    let ran : c.loop-event.self ≡ after_all c.args.self.now c.args.events.now = grind (arith, common_steps) in
    let whole : after_all (controlled_world settings) (before ++ c.args.events.now) ≡ c.loop-event.self =
    after_all-append (controlled_world settings) before c.args.events.now ∙ ap (λ (world : WorldState). after_all world c.args.events.now) (sym reached) ∙ sym ran in
    subst (λ (world : WorldState). QueuesKeepOrder (controlled_world settings).scene (before ++ c.args.events.now) world.scene) whole (QueuesKeepOrder-reached settings (before ++ c.args.events.now))
