-- SPDX-License-Identifier: MIT OR Apache-2.0
use Rattle.std.proofs.Common.{refl}
use Rattle.judge_report.proofs.Texts.{unjudged_written}
use Rattle.judge_report.proofs.lines.write_unjudged.Goals as goal

pub returns-clause-text : goal.returns-clause-text
returns-clause-text g c =
    unjudged_written c.args.unjudged c.args.unjudged.frame c.reason_text-reason.result.now (g.W.Write.contents c.args.output.now)
    (g.W.Write.contents c.write.new.self) refl c.reason_text-reason.ensures c.in_ok-write.ensures.bytes
