-- SPDX-License-Identifier: MIT OR Apache-2.0
use Rattle.std.proofs.Common.{length}
use Rattle.rerun_program.specs.Going.{Goes}
use Rattle.rerun_program.proofs.part.take_whole.Given as goal

abbrev pub invariant-loop-this : goal.invariant-loop-this
invariant-loop-this g l = Goes l.plan l.fn.course l.course (g.W.Write.contents l.fn.output) (g.W.Write.contents l.output)

abbrev pub decreases-loop-this : goal.decreases-loop-this
decreases-loop-this g l = length l.part.entries.octets
