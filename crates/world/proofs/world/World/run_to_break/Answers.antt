-- SPDX-License-Identifier: MIT OR Apache-2.0
use Rattle.std.proofs.Common.{◌≡◌, min, List, length, take, drop, ap, ◌∙◌, arith}
use Rattle.std.proofs.lemmas.Grind.{common_steps}
use Rattle.world_model.specs.declared.event.Event.{Event}
use Rattle.world_model.specs.declared.event.Event.TheVariants.{BaseDown}
use Rattle.world.specs.World.{after, after_all}
use Rattle.world.specs.WorldState.{WorldState}
use Rattle.world.proofs.Breaking.{after_all-broken, run_last}
use Rattle.world.proofs.world.World.run_to_break.Goals as goal

pub returns : goal.returns
returns c =
    let events : List Event = c.args.events.now in
    let before : List Event = c.split_at.result.0.now in
    let others : List Event = c.split_at.result.1.now in
    let front : before ≡ take (min c.args.place (length events)) events = grind (arith, common_steps) in
    let back : others ≡ drop (min c.args.place (length events)) events = grind (arith, common_steps) in
    let ran : c.run.new.self ≡ after_all c.args.self.now before = c.in_ok-run.ensures.ok in
    let broke : c.step.new.self ≡ after c.run.new.self (BaseDown c.args.source) = c.in_ok-step.ensures.ok in
    run_last c.run-2.result c.run-2.new.self
    (ap (λ (world : WorldState). after_all world others) (broke ∙ ap (λ (world : WorldState). after world (BaseDown c.args.source)) ran)
    ∙ after_all-broken c.args.self.now events before others c.args.place c.args.source front back)
    c.run-2.ensures.ok
