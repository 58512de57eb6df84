-- SPDX-License-Identifier: MIT OR Apache-2.0
use Rattle.std.proofs.Common.{◌≡◌, ◌++◌, drop}
use Rattle.connection_notes.specs.Notes.{expiry_notes}
use Rattle.world_trace.proofs.expiry.note_after.Given as goal

abbrev pub invariant-loop-place : goal.invariant-loop-place
invariant-loop-place l = l.notes.items ++ expiry_notes l.network.controller.settings.timers l.ms (drop l.place l.network.controller.entries)
    ≡ l.fn.notes.items ++ expiry_notes l.network.controller.settings.timers l.ms l.network.controller.entries
