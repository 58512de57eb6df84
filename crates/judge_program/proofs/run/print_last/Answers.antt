-- SPDX-License-Identifier: MIT OR Apache-2.0
use Rattle.std.proofs.Common.{Ok, subst}
use Rattle.judge_lines.specs.Lines.{TakesAtEnd}
use Rattle.judge_program.specs.RunState.{run_state, seen}
use Rattle.judge_program.proofs.Running.{at_end_more}
use Rattle.judge_program.proofs.run.print_last.Goals as goal

pub loop-line-preserved : goal.loop-line-preserved
loop-line-preserved g c =
    let takes = subst (λ found. TakesAtEnd c.loop-line.lines (Ok found) c.next_last_line.new.lines) c.in-Some.is c.in_ok-line.ensures.ok in
    at_end_more (run_state c.args.lines.now (seen c.args.verdicts.now) (g.W.Write.contents c.args.output.now))
    c.loop-line.lines c.next_last_line.new.lines (seen c.loop-line.verdicts) (seen c.take.new.self) (g.W.Write.contents c.loop-line.output)
    (g.W.Write.contents c.take.new.output) c.in-Some.line c.loop-line.invariant takes.2 c.in_ok-take.ensures.taken
