-- SPDX-License-Identifier: MIT OR Apache-2.0
use Rattle.std.proofs.Common.{◌≡◌, ◌++◌, drop}
use Rattle.connection_notes.specs.Notes.{notes_between}
use Rattle.connection_notes.proofs.note.note_steps.Given as goal

abbrev pub invariant-loop-sight : goal.invariant-loop-sight
invariant-loop-sight l = l.notes.items ++ notes_between l.puts (drop l.sight-index l.before) (drop l.next l.behind)
    ≡ l.fn.notes.items ++ notes_between l.puts l.before l.behind
