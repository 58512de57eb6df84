-- SPDX-License-Identifier: MIT OR Apache-2.0
use Rattle.std.proofs.lemmas.Result.{on_ok_weaker}
use Rattle.judge_report.proofs.Texts.{point_written}
use Rattle.judge_report.proofs.connection.write_point.Goals as goal

pub returns-clause-text : goal.returns-clause-text
returns-clause-text g c =
    on_ok_weaker c.write_directive.result
    (point_written c.args.outcome c.args.place c.args.connection.now c.mark-mark.result.now (g.W.Write.contents c.args.output.now) (g.W.Write.contents c.write.new.self)
    (g.W.Write.contents c.write_summary.new.output) (g.W.Write.contents c.write_directive.new.output) c.mark-mark.ensures c.in_ok-write.ensures.bytes c.in_ok-write_summary.ensures.text)
    c.write_directive.ensures.text
