-- SPDX-License-Identifier: MIT OR Apache-2.0
use Rattle.judge_report.proofs.Texts.{directive_written}
use Rattle.judge_report.proofs.connection.write_directive.Goals as goal

pub returns-in_ok-put-in-Skips-2-clause-text : goal.returns-in_ok-put-in-Skips-2-clause-text
returns-in_ok-put-in-Skips-2-clause-text g c =
    directive_written c.args.outcome c.in-Skips.unjudged (g.W.Write.contents c.args.output.now) (g.W.Write.contents c.put.new.output) (g.W.Write.contents c.write_unjudged.new.output)
    (g.W.Write.contents c.put-in-Skips.new.output) c.in-Skips.is c.in_ok-put-in-Skips.ensures c.in_ok-write_unjudged-in-Skips.ensures.text
    c.in_ok-put-in-Skips-2.ensures
