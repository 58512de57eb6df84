-- SPDX-License-Identifier: MIT OR Apache-2.0
use Rattle.std.proofs.lemmas.Result.{on_ok_weaker}
use Rattle.dtap_codec.specs.Number.{count_of}
use Rattle.judge_report.proofs.Texts.{fault_lines_written}
use Rattle.judge_report.proofs.lines.write_fault_lines.Goals as goal

pub returns-clause-text : goal.returns-clause-text
returns-clause-text g c =
    on_ok_weaker c.write_fault_line-2.result
    (fault_lines_written (count_of c.args.style.modulus) c.args.style.form c.args.direction c.args.flows.now c.order.result.now c.order-2.result.now
    (g.W.Write.contents c.args.output.now) (g.W.Write.contents c.write_fault_line.new.output) (g.W.Write.contents c.write_fault_line-2.new.output) c.order.ensures c.order-2.ensures c.in_ok-write_fault_line.ensures.text)
    c.write_fault_line-2.ensures.text
