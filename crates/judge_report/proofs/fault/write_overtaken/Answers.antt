-- SPDX-License-Identifier: MIT OR Apache-2.0
use Rattle.dtap_codec.specs.Number.{count_of}
use Rattle.judge_report.proofs.Texts.{overtaken_written}
use Rattle.judge_report.proofs.fault.write_overtaken.Goals as goal

pub returns-clause-text : goal.returns-clause-text
returns-clause-text g c =
    overtaken_written (count_of c.args.modulus) c.args.behind c.args.frame c.args.direction c.args.due.now c.goal-goal.result.now
    (g.W.Write.contents c.args.output.now) (g.W.Write.contents c.write_due.new.output) (g.W.Write.contents c.write.new.self) c.goal-goal.ensures c.in_ok-write_due.ensures.text c.in_ok-write.ensures.bytes
