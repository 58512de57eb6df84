-- SPDX-License-Identifier: MIT OR Apache-2.0
use Rattle.std.proofs.lemmas.Result.{on_ok_weaker}
use Rattle.dtap_codec.specs.Number.{count_of}
use Rattle.judge_report.proofs.Texts.{connection_written}
use Rattle.judge_report.proofs.connection.write_connection.Goals as goal

pub returns-clause-text : goal.returns-clause-text
returns-clause-text g c =
    on_ok_weaker c.write_lines_down.result
    (connection_written (count_of c.args.style.modulus) c.args.style.form c.args.style.strictness c.args.place c.args.connection.now
    (g.W.Write.contents c.args.output.now) (g.W.Write.contents c.write_first_line.new.output) (g.W.Write.contents c.write_lines_up.new.output)
    (g.W.Write.contents c.write_lines_down.new.output) c.in_ok-write_first_line.ensures.text c.in_ok-write_lines_up.ensures.text)
    c.write_lines_down.ensures.text
