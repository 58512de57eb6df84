-- SPDX-License-Identifier: MIT OR Apache-2.0
-- The trace of an event, from the views before and after it.
use Rattle.std.proofs.Common.{◌≡◌, ℕ, List, ◌++◌, Option, ap, ◌∙◌}
use Rattle.world_model.specs.declared.event.Event.{Event}
use Rattle.world_model.specs.Life.{actors_after}
use Rattle.world_model.specs.World.{Actors}
use Rattle.world_trace.specs.declared.crossing.Crossing.{Crossing}
use Rattle.world_trace.specs.declared.fate.Counts.{Counts}
use Rattle.world_trace.specs.declared.fate.Fate.{Fate}
use Rattle.world_trace.specs.declared.made.Makings.{Makings}
use Rattle.connection_notes.specs.declared.note.Note.{Note}
use Rattle.connection_notes.specs.declared.note.Puts.{Puts}
use Rattle.connection_notes.specs.declared.sight.Sight.{Sight}
use Rattle.world_trace.specs.Crossings.{crossings}
use Rattle.world_trace.specs.Fates.{connection_at, counts_of, fate_at, fate_by}
use Rattle.world_trace.specs.Makings.{AreMakings, made_at, made_behind}
use Rattle.connection_notes.specs.Notes.{notes_between}
use Rattle.world_trace.specs.Notes.{expired_at, notes_at, puts_of}
use Rattle.connection_notes.specs.Sights.{sights_of}
use Rattle.world_trace.specs.Turns.{turn_sights}
use Rattle.world_trace.proofs.Making.{made_is}
use Rattle.world_trace.proofs.Turning.{turn_notes}

pub fate_found : (w v : Actors) (event : Event) (n : ℕ) (before behind : Counts) (r : Option Fate) → n ≡ connection_at w event
    → before ≡ counts_of w n → v ≡ actors_after w event → behind ≡ counts_of v n → r ≡ fate_by before behind → r ≡ fate_at w event
fate_found w v event n before behind r is was after now found =
    found ∙ ap (λ (c : Counts). fate_by c behind) was ∙ ap (fate_by (counts_of w n)) now
    ∙ ap (λ (u : Actors). fate_by (counts_of w n) (counts_of u n)) after
    ∙ ap (λ (k : ℕ). fate_by (counts_of w k) (counts_of (actors_after w event) k)) is

pub made_found : (w v : Actors) (event : Event) (makings : Makings) (made : List Crossing) → AreMakings w event makings → v ≡ actors_after w event
    → made ≡ made_behind makings v → made ≡ made_at w event
made_found w v event makings made are after is = is ∙ ap (made_behind makings) after ∙ made_is makings w event are

pub notes_found : (w v : Actors) (event : Event) (passed : List Crossing) (puts : Puts) (sights : List Sight) (first notes : List Note)
    → first ≡ expired_at w.controller event → sights ≡ turn_sights event w.controller → passed ≡ crossings w event → puts ≡ puts_of passed
    → v ≡ actors_after w event → notes ≡ first ++ notes_between puts sights (turn_sights event v.controller) → notes ≡ notes_at w event
notes_found w v event passed puts sights first notes begin seen crossed way after is =
    is ∙ ap (λ (ns : List Note). ns ++ notes_between puts sights (turn_sights event v.controller)) begin
    ∙ ap (λ (ss : List Sight). expired_at w.controller event ++ notes_between puts ss (turn_sights event v.controller)) seen
    ∙ ap (λ (u : Actors). expired_at w.controller event ++ notes_between puts (turn_sights event w.controller) (turn_sights event u.controller)) after
    ∙ ap (λ (ns : List Note). expired_at w.controller event ++ ns) (turn_notes puts w event)
    ∙ ap (λ (p : Puts). expired_at w.controller event ++ notes_between p (sights_of w.controller.entries) (sights_of (actors_after w event).controller.entries))
    (way ∙ ap puts_of crossed)
