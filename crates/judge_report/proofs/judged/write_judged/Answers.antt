-- SPDX-License-Identifier: MIT OR Apache-2.0
use Rattle.std.proofs.lemmas.Result.{on_ok_weaker}
use Rattle.std.proofs.KnownBytes.{Appends-trans}
use Rattle.dtap_codec.specs.Number.{count_of}
use Rattle.judge_report.specs.ConnectionText.{connection_text}
use Rattle.judge_report.specs.JudgedText.{fit_line}
use Rattle.judge_report.proofs.judged.write_judged.Goals as goal

pub returns-clause-text : goal.returns-clause-text
returns-clause-text g c =
    on_ok_weaker c.write_fit.result
    (Appends-trans (g.W.Write.contents c.args.output.now) (g.W.Write.contents c.write_connection.new.output) (g.W.Write.contents c.write_fit.new.output)
    (connection_text (count_of c.args.style.modulus) c.args.style.form c.args.style.strictness c.args.place c.args.judged.now.connection)
    (fit_line c.args.style.form c.args.judged.now.fit) c.in_ok-write_connection.ensures.text)
    c.write_fit.ensures.text
