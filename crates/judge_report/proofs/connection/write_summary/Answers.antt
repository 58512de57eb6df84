-- SPDX-License-Identifier: MIT OR Apache-2.0
use Rattle.std.proofs.Common.{ℕ, ◌+◌, ap}
use Rattle.std.proofs.lemmas.Result.{on_ok_weaker}
use Rattle.judge_report.proofs.Texts.{summary_as}
use Rattle.judge_report.proofs.connection.write_summary.Goals as goal

pub returns-clause-text : goal.returns-clause-text
returns-clause-text g c =
    on_ok_weaker c.write_up.result
    (summary_as _ c.args.connection.now (c.from-channels.result + 1) c.came_of-came.result c.gone_of-gone.result c.standing_of-stands.result
    (g.W.Write.contents c.args.output.now) (g.W.Write.contents c.write_name.new.output) (g.W.Write.contents c.write_up.new.output) c.connection.view_is
    (ap (λ (n : ℕ). n + 1) c.from-channels.ensures) c.came_of-came.ensures c.gone_of-gone.ensures c.standing_of-stands.ensures
    c.in_ok-write_name.ensures.text)
    c.write_up.ensures.text
