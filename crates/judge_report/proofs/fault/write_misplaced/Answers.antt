-- SPDX-License-Identifier: MIT OR Apache-2.0
use Rattle.dtap_codec.specs.Number.{count_of}
use Rattle.judge_report.proofs.Texts.{misplaced_written}
use Rattle.judge_report.proofs.fault.write_misplaced.Goals as goal

pub returns-clause-text : goal.returns-clause-text
returns-clause-text g c =
    misplaced_written (count_of c.args.modulus) c.args.frame c.args.direction c.args.words.now c.as_bytes.result.now c.args.message.now
    c.as_slice.result.now (g.W.Write.contents c.args.output.now) (g.W.Write.contents c.put.new.output) (g.W.Write.contents c.write_message.new.output) (g.W.Write.contents c.write.new.self)
    c.as_bytes.ensures.value c.as_slice.ensures c.in_ok-put.ensures c.in_ok-write_message.ensures.text c.in_ok-write.ensures.bytes
