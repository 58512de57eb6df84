-- SPDX-License-Identifier: MIT OR Apache-2.0
use Rattle.judge_report.proofs.Texts.{up_written}
use Rattle.judge_report.proofs.connection.write_up.Goals as goal

pub returns-clause-text : goal.returns-clause-text
returns-clause-text g c =
    up_written c.args.channels c.args.came c.args.gone c.args.stands c.plural_end-end.result.now c.plural_end-end-2.result.now
    c.text-words.result.now (g.W.Write.contents c.args.output.now) (g.W.Write.contents c.write.new.self) (g.W.Write.contents c.write-2.new.self)
    (g.W.Write.contents c.write-3.new.self) c.plural_end-end.ensures c.plural_end-end-2.ensures c.text-words.ensures c.in_ok-write.ensures.bytes
    c.in_ok-write-2.ensures.bytes c.in_ok-write-3.ensures.bytes
