-- SPDX-License-Identifier: MIT OR Apache-2.0
use Rattle.std.proofs.Common.{◌++◌, ◌∙◌, ap, sym}
use Rattle.connection_notes.specs.declared.sight.Sight.{Sight}
use Rattle.connection_notes.specs.Notes.{step_notes}
use Rattle.connection_notes.proofs.Turning.{beside_none, beside_some}
use Rattle.connection_notes.proofs.note.note_beside.Goals as goal

pub returns-in_ok-note_kept-in-Some : goal.returns-in_ok-note_kept-in-Some
returns-in_ok-note_kept-in-Some c = λ others.
    beside_some c.args.puts c.args.before.now c.in-Some.sight.now c.args.behind.now others c.args.next c.args.notes.now.items
    c.note_kept.new.notes.items (sym c.in-Some.ensures) c.in_ok-note_kept-in-Some.ensures

pub returns-in_ok-note_step-in-None : goal.returns-in_ok-note_step-in-None
returns-in_ok-note_step-in-None c = λ others.
    beside_none c.args.puts c.args.before.now c.args.behind.now others c.args.next c.args.notes.now.items c.note_step.new.notes.items
    (sym c.in-None.ensures)
    (c.in_ok-note_step-in-None.ensures ∙ ap (λ (s : Sight). c.args.notes.now.items ++ step_notes c.args.puts c.args.before.now s) c.absent.ensures)
