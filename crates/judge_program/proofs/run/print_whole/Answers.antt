-- SPDX-License-Identifier: MIT OR Apache-2.0
use Rattle.std.proofs.Common.{Ok, subst, sym}
use Rattle.judge_lines.specs.Lines.{Takes}
use Rattle.program_io.proofs.Ends.{said_of}
use Rattle.judge_program.specs.RunState.{StopsLine, run_state, seen}
use Rattle.judge_program.specs.declared.stop.Stop.{Stop}
use Rattle.judge_program.proofs.Running.{prints_more, stops_behind}
use Rattle.judge_program.proofs.run.print_whole.Goals as goal

pub loop-line-preserved : goal.loop-line-preserved
loop-line-preserved g c =
    let takes = subst (λ found. Takes c.loop-line.lines (Ok found) c.next_line.new.lines) c.in-Some.is c.in_ok-line.ensures.ok in
    prints_more (run_state c.args.lines.now (seen c.args.verdicts.now) (g.W.Write.contents c.args.output.now))
    c.loop-line.lines c.next_line.new.lines (seen c.loop-line.verdicts) (seen c.take.new.self) (g.W.Write.contents c.loop-line.output)
    (g.W.Write.contents c.take.new.output) c.in-Some.line c.loop-line.invariant takes c.in_ok-take.ensures.taken

pub returns-in_err-line-clause-err : goal.returns-in_err-line-clause-err
returns-in_err-line-clause-err g c =
    said_of c.from_residual.result _ _ c.from_residual.ensures.1
    (λ stop is.
    stops_behind stop (run_state c.args.lines.now (seen c.args.verdicts.now) (g.W.Write.contents c.args.output.now))
    c.loop-line.lines (seen c.loop-line.verdicts) (g.W.Write.contents c.loop-line.output) c.loop-line.invariant
    (subst (λ (s : Stop). StopsLine s c.loop-line.lines) (sym is) c.in_err-line.ensures.err))
