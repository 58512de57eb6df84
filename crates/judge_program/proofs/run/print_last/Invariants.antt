-- SPDX-License-Identifier: MIT OR Apache-2.0
use Rattle.std.proofs.Common.{length}
use Rattle.judge_program.specs.RunState.{PrintsAtEnd, run_state, seen}
use Rattle.judge_program.proofs.run.print_last.Given as goal

abbrev pub invariant-loop-line : goal.invariant-loop-line
invariant-loop-line g l =
    PrintsAtEnd (run_state l.fn.lines (seen l.fn.verdicts) (g.W.Write.contents l.fn.output))
    (run_state l.lines (seen l.verdicts) (g.W.Write.contents l.output))

abbrev pub decreases-loop-line : goal.decreases-loop-line
decreases-loop-line g l = length l.lines.octets
