-- SPDX-License-Identifier: MIT OR Apache-2.0
use Rattle.trace_program.proofs.Tracing.{note_written}
use Rattle.trace_program.proofs.notes.write_note.Goals as goal

pub returns-clause-text : goal.returns-clause-text
returns-clause-text g c =
    note_written c.args.number c.number-connection.result c.args.note (g.W.Write.contents c.args.output.now)
    (g.W.Write.contents c.writeln.new.self) c.number-connection.ensures c.in_ok-writeln.ensures.bytes
