-- SPDX-License-Identifier: MIT OR Apache-2.0
use Rattle.judge_program.specs.RunState.{seen}
use Rattle.judge_program.proofs.Printing.{finishes_with}
use Rattle.judge_program.proofs.verdicts.Verdicts.finish.Goals as goal

pub returns-clause-ok : goal.returns-clause-ok
returns-clause-ok g c =
    finishes_with (seen c.args.self) c.in_ok-sums.sums c.in_ok-left.left.items c.as_slice.result.now (g.W.Write.contents c.args.output.now)
    (g.W.Write.contents c.print_all.new.output) (g.W.Write.contents c.write_end.new.output) c.in_ok-left.ensures c.as_slice.ensures.value
    c.in_ok-sums.ensures.sums c.in_ok-sums.ensures.text c.in_ok-write_end.ensures.text
