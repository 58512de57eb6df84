-- SPDX-License-Identifier: MIT OR Apache-2.0
use Rattle.world.specs.World.{controlled_world}
use Rattle.bsc_program.proofs.Breaking.{counted_again, event_at, follows_on, on_ok}
use Rattle.bsc_program.proofs.breaks.counts_behind.Goals as goal

pub returns-then-branch-clause-follows : goal.returns-then-branch-clause-follows
returns-then-branch-clause-follows c =
    let event = c.index-events-place.result in
    let at = event_at c.args.events.now c.args.place event c.requires.below c.index-events-place.is in
    follows_on (controlled_world c.args.settings.now) c.args.unbroken.now c.pass.new.self c.args.events.now c.args.place event
    c.requires.follows at c.in_ok-pass.ensures.ok

pub returns-then-branch-clause-counted : goal.returns-then-branch-clause-counted
returns-then-branch-clause-counted c =
    let event = c.index-events-place.result in
    let at = event_at c.args.events.now c.args.place event c.requires.below c.index-events-place.is in
    counted_again (controlled_world c.args.settings.now) c.args.unbroken.now c.args.events.now c.args.source c.args.place c.args.counts
    event c.requires.follows c.requires.counted at (c.in_ok-pass.ensures.same c.if-branch.true)

pub returns-else-branch-clause-follows : goal.returns-else-branch-clause-follows
returns-else-branch-clause-follows c =
    let event = c.index-events-place.result in
    let at = event_at c.args.events.now c.args.place event c.requires.below c.index-events-place.is in
    on_ok c.counts_at.result
    (follows_on (controlled_world c.args.settings.now) c.args.unbroken.now c.pass.new.self c.args.events.now c.args.place event
    c.requires.follows at c.in_ok-pass.ensures.ok)
