-- SPDX-License-Identifier: MIT OR Apache-2.0
use Rattle.dtap_codec.specs.Number.{count_of}
use Rattle.judge_report.proofs.Texts.{doubled_written}
use Rattle.judge_report.proofs.fault.write_doubled.Goals as goal

pub returns-clause-text : goal.returns-clause-text
returns-clause-text g c =
    doubled_written (count_of c.args.modulus) c.args.first c.args.frame c.args.direction c.args.message.now
    (g.W.Write.contents c.args.output.now) (g.W.Write.contents c.write_passed.new.output) (g.W.Write.contents c.write.new.self) c.in_ok-write_passed.ensures.text c.in_ok-write.ensures.bytes
