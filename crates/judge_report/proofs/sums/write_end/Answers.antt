-- SPDX-License-Identifier: MIT OR Apache-2.0
use Rattle.judge_report.proofs.Texts.{end_written}
use Rattle.judge_report.proofs.sums.write_end.Goals as goal

pub returns-in_ok-writeln-in-Tap-clause-text : goal.returns-in_ok-writeln-in-Tap-clause-text
returns-in_ok-writeln-in-Tap-clause-text g c =
    end_written c.args.form c.args.sums (g.W.Write.contents c.args.output.now) (g.W.Write.contents c.put.new.output) (g.W.Write.contents c.write_sums-in-Tap.new.output)
    (g.W.Write.contents c.writeln.new.self) c.in-Tap.is c.in_ok-put-in-Tap.ensures c.in_ok-write_sums-in-Tap.ensures.text c.in_ok-writeln-in-Tap.ensures.bytes
