-- SPDX-License-Identifier: MIT OR Apache-2.0
use Rattle.std.proofs.KnownBytes.{Appends-nil}
use Rattle.connection_notes.specs.declared.note.Note.TheVariants.{Expired}
use Rattle.connection_notes.specs.declared.note.Timer.TheVariants.{T3101}
use Rattle.trace_program.proofs.Tracing.{notes_all, notes_more}
use Rattle.trace_program.proofs.notes.write_notes.Goals as goal

pub loop-note-init : goal.loop-note-init
loop-note-init g c = Appends-nil (g.W.Write.contents c.args.output.now)

pub loop-note-preserved : goal.loop-note-preserved
loop-note-preserved g c =
    notes_more c.args.number c.loop-note.note-index c.args.notes.now (Expired 0 T3101) (g.W.Write.contents c.args.output.now)
    (g.W.Write.contents c.loop-note.output) (g.W.Write.contents c.write_note.new.output) c.loop-note.invariant c.loop-note-test.true
    c.in_ok-write_note.ensures.text

pub returns-clause-text : goal.returns-clause-text
returns-clause-text g c =
    notes_all c.args.number c.loop-note.note-index c.args.notes.now
    (g.W.Write.contents c.args.output.now) (g.W.Write.contents c.loop-note.output) c.loop-note.invariant
    c.loop-note-test.false
