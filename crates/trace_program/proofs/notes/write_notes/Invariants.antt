-- SPDX-License-Identifier: MIT OR Apache-2.0
use Rattle.std.proofs.Common.{take}
use Rattle.std.specs.List.{flat_map}
use Rattle.std.specs.Io.KnownBytes.{Appends}
use Rattle.trace_program.specs.TraceLines.{note_line}
use Rattle.trace_program.proofs.notes.write_notes.Given as goal

abbrev pub invariant-loop-note : goal.invariant-loop-note
invariant-loop-note g l = Appends (g.W.Write.contents l.fn.output) (g.W.Write.contents l.output)
    (flat_map (note_line l.number) (take l.note-index l.notes))
