-- SPDX-License-Identifier: MIT OR Apache-2.0
use Rattle.world.specs.World.{controlled_world}
use Rattle.bsc_program.proofs.Breaking.{at_first, at_next}
use Rattle.bsc_program.proofs.breaks.write_followed.Goals as goal

pub loop-place-init : goal.loop-place-init
loop-place-init g c =
    at_first (controlled_world c.args.settings.now) c.args.unbroken.now c.args.events.now c.args.source c.in_ok-counts.counts
    c.excess_behind-excess.result
    (g.W.Write.contents c.args.output.now) (g.W.Write.contents c.write_break.new.output) c.requires.begins c.in_ok-counts.ensures.ok
    c.excess_behind-excess.ensures c.in_ok-write_break.ensures.ok

pub loop-place-preserved : goal.loop-place-preserved
loop-place-preserved g c =
    at_next (controlled_world c.args.settings.now) c.args.events.now c.args.source c.loop-place.place c.loop-place.unbroken
    c.counts_behind.new.unbroken c.loop-place.counts c.in_ok-counts-2.counts c.loop-place.excess c.excess_behind-excess-in-loop-place.result (g.W.Write.contents c.args.output.now)
    (g.W.Write.contents c.loop-place.output) (g.W.Write.contents c.write_break-in-loop-place.new.output) c.loop-place.invariant
    c.in_ok-counts-2.ensures.follows c.in_ok-counts-2.ensures.counted c.excess_behind-excess-in-loop-place.ensures c.in_ok-write_break-2.ensures.ok
