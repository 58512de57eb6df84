-- SPDX-License-Identifier: MIT OR Apache-2.0
-- Which lines of a run are shown.
use Rattle.std.specs.Prelude.{ℕ, ◌==◌, ◌&&◌, ◌||◌, Bool, true, false, nat_le, is_none}
use Rattle.std.specs.Prelude.{if◌then◌else◌, List, [], ◌∷◌, Option, Some, None}
use Rattle.conn_messages.specs.declared.out.Out.{Out}
use Rattle.connection_notes.specs.declared.note.Note.{Note}
use Rattle.connection_notes.specs.Notes.{number_of}
use Rattle.controller_model.specs.declared.step.Step.{Step}
use Rattle.controller_model.specs.declared.step.Step.TheVariants.{Take, Tick}
use Rattle.rerun_lines.specs.Clock.{time_of_day}
use Rattle.rerun_lines.specs.declared.choice.Choice.{Choice}
use Rattle.run_record.specs.declared.entry.Stamp.{Stamp}

-- a number is the one that is wanted, or any is
abbrev pub fits : Option ℕ → ℕ → Bool
fits None number = true
fits (Some wanted) number = wanted == number

-- a time of day is between two others; the second may be on the next day
abbrev pub is_between : ℕ → ℕ → ℕ → Bool
is_between from to time =
    if nat_le from to then nat_le from time && nat_le time to
    else nat_le from time || nat_le time to

abbrev pub shows_time : Choice → Stamp → Bool
shows_time choice stamp = is_between choice.from choice.to (time_of_day stamp)

-- what a step took of a link: whether it is for the connection that is wanted is told
abbrev pub shows_taken : Choice → Bool → ℕ → Bool
shows_taken choice concerns link = (is_none choice.conn || concerns) && fits choice.cell link

abbrev pub shows_out : Choice → Out → Bool
shows_out choice out = fits choice.conn out.conn && fits choice.cell out.to

-- a frame was put on the link of this cell's station
abbrev pub has_link : ℕ → List Out → Bool
has_link cell [] = false
has_link cell (out ∷ outs) = if out.to == cell then true else has_link cell outs

-- a step took something of this link
abbrev pub is_from : ℕ → Step → Bool
is_from cell (Take item) = item.source == cell
is_from cell (Tick ms) = false

-- a step took something of the station of the cell that is wanted, or put something on its link
abbrev pub touches : Option ℕ → Step → List Out → Bool
touches None step outs = true
touches (Some cell) step outs = is_from cell step || has_link cell outs

abbrev pub shows_note : Choice → Bool → Note → Bool
shows_note choice touched note = touched && fits choice.conn (number_of note)
