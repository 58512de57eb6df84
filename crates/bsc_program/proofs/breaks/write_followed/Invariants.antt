-- SPDX-License-Identifier: MIT OR Apache-2.0
use Rattle.world.specs.World.{controlled_world}
use Rattle.bsc_program.proofs.Breaking.{IsAt}
use Rattle.bsc_program.proofs.breaks.write_followed.Given as goal

abbrev pub invariant-loop-place : goal.invariant-loop-place
invariant-loop-place g l =
    IsAt (controlled_world l.settings) l.events l.source l.place l.unbroken l.counts l.excess
    (g.W.Write.contents l.fn.output) (g.W.Write.contents l.output)
