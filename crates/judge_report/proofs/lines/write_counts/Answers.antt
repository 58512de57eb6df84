-- SPDX-License-Identifier: MIT OR Apache-2.0
use Rattle.judge_report.proofs.Texts.{counts_written}
use Rattle.judge_report.proofs.lines.write_counts.Goals as goal

pub returns-clause-text : goal.returns-clause-text
returns-clause-text g c =
    counts_written c.args.numbered c.args.counts c.plural_end-end.result.now (g.W.Write.contents c.args.output.now) (g.W.Write.contents c.write.new.self)
    (g.W.Write.contents c.writeln.new.self) c.plural_end-end.ensures c.in_ok-write.ensures.bytes c.in_ok-writeln.ensures.bytes
