-- SPDX-License-Identifier: MIT OR Apache-2.0
use Rattle.std.proofs.lemmas.Result.{on_ok_weaker}
use Rattle.dtap_codec.specs.Number.{count_of}
use Rattle.judge_report.proofs.Texts.{changed_written}
use Rattle.judge_report.proofs.fault.write_changed.Goals as goal

pub returns-clause-text : goal.returns-clause-text
returns-clause-text g c =
    on_ok_weaker c.write_passed.result
    (changed_written (count_of c.args.modulus) c.args.frame c.args.direction c.args.due.now c.args.message.now
    (g.W.Write.contents c.args.output.now) (g.W.Write.contents c.write_due.new.output) (g.W.Write.contents c.write_passed.new.output) c.in_ok-write_due.ensures.text)
    c.write_passed.ensures.text
