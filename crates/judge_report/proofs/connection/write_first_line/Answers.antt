-- SPDX-License-Identifier: MIT OR Apache-2.0
use Rattle.judge_report.proofs.Texts.{first_line_written}
use Rattle.judge_report.proofs.connection.write_first_line.Goals as goal

pub returns-in_ok-put-in-Text-clause-text : goal.returns-in_ok-put-in-Text-clause-text
returns-in_ok-put-in-Text-clause-text g c =
    first_line_written c.args.style.form c.args.style.strictness c.args.place c.args.connection.now (g.W.Write.contents c.args.output.now)
    (g.W.Write.contents c.write_summary.new.output) (g.W.Write.contents c.put.new.output) c.in-Text.is c.in_ok-write_summary-in-Text.ensures.text
    c.in_ok-put-in-Text.ensures
