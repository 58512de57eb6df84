-- SPDX-License-Identifier: MIT OR Apache-2.0
use Rattle.std.proofs.lemmas.Result.{on_ok_weaker}
use Rattle.bsc_program.proofs.Replaying.{report_as}
use Rattle.bsc_program.proofs.replay_command.report_events.Goals as goal

pub returns-clause-ok : goal.returns-clause-ok
returns-clause-ok g c =
    on_ok_weaker c.write_report.result (report_as _ c.run.new.self (g.W.Write.contents c.args.output.now) (g.W.Write.contents c.write_report.new.output) c.in_ok-run.ensures.ok) c.write_report.ensures.ok
