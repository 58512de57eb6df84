-- SPDX-License-Identifier: MIT OR Apache-2.0
use Rattle.std.proofs.Common.{◌∙◌}
use Rattle.dtap_codec.specs.Number.{count_of}
use Rattle.judge_report.proofs.Texts.{fault_line_written}
use Rattle.judge_report.proofs.lines.write_fault_line.Goals as goal

pub returns-in_ok-put-in-Faulty-2-clause-text : goal.returns-in_ok-put-in-Faulty-2-clause-text
returns-in_ok-put-in-Faulty-2-clause-text g c =
    fault_line_written (count_of c.args.style.modulus) c.args.style.form c.args.direction c.args.order.now c.in-Faulty.fault
    c.as_bytes.result.now (g.W.Write.contents c.args.output.now) (g.W.Write.contents c.put.new.output) (g.W.Write.contents c.write_fault.new.output)
    (g.W.Write.contents c.put-in-Faulty.new.output) c.in-Faulty.is (c.as_bytes.ensures.value ∙ c.lead_of.ensures) c.in_ok-put-in-Faulty.ensures
    c.in_ok-write_fault-in-Faulty.ensures.text c.in_ok-put-in-Faulty-2.ensures
