-- SPDX-License-Identifier: MIT OR Apache-2.0
use Rattle.std.proofs.lemmas.Result.{IfOk-weaker}
use Rattle.judge_program.specs.RunState.{seen}
use Rattle.judge_program.proofs.Reporting.{reports_all}
use Rattle.judge_program.proofs.command.judge_all.Goals as goal

pub returns-clause-ok : goal.returns-clause-ok
returns-clause-ok g c =
    IfOk-weaker c.finish.result _ _
    (λ sums done.
    reports_all c.args.style c.args.cells.items (g.R.Read.remaining c.args.input.now) (seen c.in_ok-verdicts.verdicts) sums
    (g.W.Write.contents c.args.output.now) (g.W.Write.contents c.write_start.new.output) (g.W.Write.contents c.read_lines-read.new.output)
    (g.W.Write.contents c.flush.new.self) (g.W.Write.contents c.finish.new.output) c.in_ok-write_start.ensures.text
    c.in_ok-verdicts.ensures.ok c.in_ok-flush.ensures.bytes done)
    c.finish.ensures.ok
