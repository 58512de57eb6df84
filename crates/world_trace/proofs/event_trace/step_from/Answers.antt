-- SPDX-License-Identifier: MIT OR Apache-2.0
use Rattle.std.proofs.Common.{List, ◌++◌, ap, ◌∙◌}
use Rattle.world_trace.specs.declared.crossing.Crossing.{Crossing}
use Rattle.connection_notes.specs.declared.note.Note.{Note}
use Rattle.connection_notes.specs.declared.sight.Sight.{Sight}
use Rattle.world_trace.specs.Makings.{made_behind}
use Rattle.connection_notes.specs.Notes.{notes_between}
use Rattle.world_trace.specs.Notes.{expired_at, puts_of}
use Rattle.world_trace.proofs.Stepping.{made_found, notes_found}
use Rattle.world_trace.proofs.event_trace.step_from.Goals as goal

pub returns-clause-made : goal.returns-clause-made
returns-clause-made c =
    made_found c.args.network.now c.pass.new.network c.args.event.now c.in_ok-makings.makings c.note_behind.new.crossings.items
    c.in_ok-makings.ensures c.in_ok-refusal.ensures.actors
    (c.in_ok-note_behind.ensures
    ∙ ap (λ (xs : List Crossing). xs ++ made_behind c.in_ok-makings.makings c.pass.new.network) c.new-made.ensures.items)

pub returns-clause-notes : goal.returns-clause-notes
returns-clause-notes c =
    let w = c.args.network.now in
    let event = c.args.event.now in
    notes_found w c.pass.new.network event c.in_ok-refusal.field-0.crossings.items c.puts_of-puts.result c.args.before.now
    c.note_expired.new.notes.items c.note_steps.new.notes.items
    (c.in_ok-note_expired.ensures ∙ ap (λ (ns : List Note). ns ++ expired_at w.controller event) c.new-notes.ensures.items)
    c.requires c.in_ok-refusal.ensures.crossings (c.puts_of-puts.ensures ∙ ap puts_of c.as_slice.ensures.value) c.in_ok-refusal.ensures.actors
    (c.in_ok-note_steps.ensures
    ∙ ap (λ (ss : List Sight). c.note_expired.new.notes.items ++ notes_between c.puts_of-puts.result c.args.before.now ss)
    (c.as_slice-2.ensures.value ∙ c.in_ok-behind.ensures))
