-- SPDX-License-Identifier: MIT OR Apache-2.0
use Rattle.std.proofs.Common.{ℕ, ap, ◌∙◌}
use Rattle.std.proofs.lemmas.Result.{on_ok_weaker}
use Rattle.judge_report.specs.ConnectionText.{sum_of}
use Rattle.judge_report.proofs.Texts.{switch_written}
use Rattle.judge_report.proofs.lines.write_switch.Goals as goal

pub returns-clause-text : goal.returns-clause-text
returns-clause-text g c =
    on_ok_weaker c.write_counts.result
    (switch_written c.args.form c.args.counts c.sum_of.result c.as_bytes.result.now (g.W.Write.contents c.args.output.now) (g.W.Write.contents c.put.new.output)
    (g.W.Write.contents c.write_counts.new.output) (c.as_bytes.ensures.value ∙ c.lead_of.ensures)
    (c.sum_of.ensures ∙ ap (λ (n : ℕ). sum_of n c.args.counts.behind_gap) c.sum_of-both.ensures) c.in_ok-put.ensures)
    c.write_counts.ensures.text
