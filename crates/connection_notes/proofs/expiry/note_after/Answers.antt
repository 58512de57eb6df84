-- SPDX-License-Identifier: MIT OR Apache-2.0
use Rattle.controller_model.specs.Controller.{Entry}
use Rattle.connection_notes.specs.Notes.{expired, timer_at}
use Rattle.connection_notes.proofs.Walking.{walk_more}
use Rattle.connection_notes.proofs.expiry.note_after.Goals as goal

pub loop-place-preserved : goal.loop-place-preserved
loop-place-preserved c =
    let c0 = c.args.controller.now in
    walk_more (λ (e : Entry). expired e.connection.number (timer_at c0.settings.timers c.args.ms e.connection)) c.loop-place.notes.items
    c.note_expiry.new.notes.items _ c0.entries c.loop-place.place c.loop-place.invariant c.in_ok-note_expiry.ensures
