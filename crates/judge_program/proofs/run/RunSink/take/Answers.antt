-- SPDX-License-Identifier: MIT OR Apache-2.0
use Rattle.std.proofs.Common.{[], refl, subst, sym}
use Rattle.program_io.proofs.Ends.{said_of}
use Rattle.judge_program.specs.RunState.{StopsWith, run_state, seen}
use Rattle.judge_program.specs.declared.stop.Stop.{Stop}
use Rattle.judge_program.proofs.Running.{stops_fed}
use Rattle.judge_program.proofs.run.RunSink.take.Goals as goal

pub returns-in_err-print_whole-clause-refused : goal.returns-in_err-print_whole-clause-refused
returns-in_err-print_whole-clause-refused g c =
    said_of c.from_residual-in_err-print_whole.result _ _ c.from_residual-in_err-print_whole.ensures.1
    (λ stop is. (
      refl,
      stops_fed stop c.args.piece.now c.args.self.now.lines c.feed.new.self (seen c.args.self.now.verdicts)
          (g.W.Write.contents c.args.self.now.output.now) (g.W.Write.contents c.print_whole.new.output) c.in_ok-feed.ensures
          (subst (λ (s : Stop). StopsWith s []
          (run_state c.feed.new.self (seen c.args.self.now.verdicts) (g.W.Write.contents c.args.self.now.output.now))
          (g.W.Write.contents c.print_whole.new.output)) (sym is) c.in_err-print_whole.ensures.err),
    ))
