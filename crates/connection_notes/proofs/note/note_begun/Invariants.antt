-- SPDX-License-Identifier: MIT OR Apache-2.0
use Rattle.std.proofs.Common.{◌≡◌, ◌++◌, [], drop}
use Rattle.connection_notes.specs.Notes.{notes_between}
use Rattle.connection_notes.proofs.note.note_begun.Given as goal

abbrev pub invariant-loop-place : goal.invariant-loop-place
invariant-loop-place l = l.notes.items ++ notes_between l.puts [] (drop l.place l.behind)
    ≡ l.fn.notes.items ++ notes_between l.puts [] (drop l.next l.behind)
