-- SPDX-License-Identifier: MIT OR Apache-2.0
use Rattle.std.proofs.Common.{ap, ◌∙◌}
use Rattle.run_judge.specs.ConnectionState.{ConnectionState}
use Rattle.judge_report.specs.ConnectionText.{reference_digits}
use Rattle.judge_report.proofs.Texts.{name_written}
use Rattle.judge_report.proofs.connection.write_name.Goals as goal

pub returns-clause-text : goal.returns-clause-text
returns-clause-text g c =
    name_written c.args.connection.now c.connection.inside.number c.reference_digits.result (g.W.Write.contents c.args.output.now) (g.W.Write.contents c.write.new.self)
    (g.W.Write.contents c.put.new.output) (g.W.Write.contents c.put-2.new.output)
    (ap (λ (s : ConnectionState). s.number) c.connection.view_is)
    (c.reference_digits.ensures ∙ ap (λ (s : ConnectionState). reference_digits s.reference) c.connection.view_is)
    c.in_ok-write.ensures.bytes c.in_ok-put.ensures c.in_ok-put-2.ensures
