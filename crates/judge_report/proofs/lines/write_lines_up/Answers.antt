-- SPDX-License-Identifier: MIT OR Apache-2.0
use Rattle.std.proofs.lemmas.Result.{on_ok_weaker}
use Rattle.dtap_codec.specs.Number.{count_of}
use Rattle.judge_report.proofs.Texts.{lines_up_as}
use Rattle.judge_report.proofs.lines.write_lines_up.Goals as goal

pub returns-clause-text : goal.returns-clause-text
returns-clause-text g c =
    on_ok_weaker c.write_switch.result
    (lines_up_as (count_of c.args.style.modulus) c.args.style.form _ c.args.connection.now c.has_fault.result
    (g.W.Write.contents c.args.output.now) (g.W.Write.contents c.write_fault_lines.new.output) (g.W.Write.contents c.write_outside.new.output)
    (g.W.Write.contents c.write_mobile.new.output) (g.W.Write.contents c.write_switch.new.output) c.connection.view_is c.has_fault.ensures c.in_ok-write_fault_lines.ensures.text
    c.in_ok-write_outside.ensures.text c.in_ok-write_mobile.ensures.text)
    c.write_switch.ensures.text
