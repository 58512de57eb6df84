-- SPDX-License-Identifier: MIT OR Apache-2.0
use Rattle.std.proofs.Common.{◌++◌, codes, length}
use Rattle.std.specs.Prelude.{decimal}
use Rattle.std.specs.Io.KnownBytes.{Appends}
use Rattle.bsc_program.proofs.Reporting.{messages_all, messages_more, messages_none}
use Rattle.bsc_program.proofs.report.write_messages.Goals as goal

pub loop-message-init : goal.loop-message-init
loop-message-init g c =
    let count : Appends (g.W.Write.contents c.args.output.now) (g.W.Write.contents c.writeln.new.self) (decimal (length c.args.messages.now) ++ codes "\n") = c.in_ok-writeln.ensures.bytes in
    messages_none c.args.messages.now (g.W.Write.contents c.args.output.now) (g.W.Write.contents c.writeln.new.self) count

pub loop-message-preserved : goal.loop-message-preserved
loop-message-preserved g c =
    messages_more c.args.messages.now c.loop-message.message-index c.message-item.result (g.W.Write.contents c.args.output.now) (g.W.Write.contents c.loop-message.output) (g.W.Write.contents c.write_message.new.output) c.loop-message.invariant
    c.loop-message-test.true c.message-item.is c.in_ok-write_message.ensures.ok

pub returns-clause-ok : goal.returns-clause-ok
returns-clause-ok g c =
    messages_all c.args.messages.now c.loop-message.message-index (g.W.Write.contents c.args.output.now) (g.W.Write.contents c.loop-message.output) c.loop-message.invariant c.loop-message-test.false
