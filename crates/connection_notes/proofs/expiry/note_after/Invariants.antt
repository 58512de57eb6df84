-- SPDX-License-Identifier: MIT OR Apache-2.0
use Rattle.std.proofs.Common.{◌≡◌, ◌++◌, drop}
use Rattle.connection_notes.specs.Notes.{expiry_notes}
use Rattle.connection_notes.proofs.expiry.note_after.Given as goal

abbrev pub invariant-loop-place : goal.invariant-loop-place
invariant-loop-place l = l.notes.items ++ expiry_notes l.controller.settings.timers l.ms (drop l.place l.controller.entries)
    ≡ l.fn.notes.items ++ expiry_notes l.controller.settings.timers l.ms l.controller.entries
