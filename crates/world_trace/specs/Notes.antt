-- SPDX-License-Identifier: MIT OR Apache-2.0
-- The notes on the controller's connections at an event.
use Rattle.std.specs.Prelude.{ℕ, Bool, true, false, if◌then◌else◌}
use Rattle.std.specs.Prelude.{List, [], ◌∷◌, ◌++◌}
use Rattle.connection_notes.specs.declared.note.Note.{Note}
use Rattle.connection_notes.specs.declared.note.Puts.{Puts}
use Rattle.connection_notes.specs.declared.note.Way.{Way}
use Rattle.connection_notes.specs.declared.note.Way.TheVariants.{Down, Up}
use Rattle.connection_notes.specs.Notes.{expiry_notes, notes_between}
use Rattle.connection_notes.specs.Sights.{sights_of}
use Rattle.controller_model.specs.Controller.{Controller}
use Rattle.world_model.specs.declared.event.Event.{Event}
use Rattle.world_model.specs.declared.event.Event.TheVariants.{Tick}
use Rattle.world_model.specs.Life.{actors_after}
use Rattle.world_model.specs.World.{Actors}
use Rattle.world_trace.specs.declared.crossing.Crossing.{Crossing}
use Rattle.world_trace.specs.declared.crossing.End.{End}
use Rattle.world_trace.specs.declared.crossing.End.TheVariants.{Switch, Station}
use Rattle.world_trace.specs.declared.crossing.Passage.{Passage}
use Rattle.world_trace.specs.declared.crossing.Passage.TheVariants.{Sent}
use Rattle.world_trace.specs.Crossings.{crossings}

-- ---- timers

abbrev pub expired_at : Controller → Event → List Note
expired_at c (Tick ms) = expiry_notes c.settings.timers ms c.entries
expired_at c event = []

-- ---- held messages

-- whether a frame is put on a link in this direction: down on a station's link, up on the switch's
abbrev pub is_sent_by : Way → Passage → End → Bool
is_sent_by Down Sent (Station number) = true
is_sent_by Up Sent Switch = true
is_sent_by way passage to = false

abbrev pub is_sent : Way → Crossing → Bool
is_sent way crossing = is_sent_by way crossing.passage crossing.to

abbrev pub is_put : Way → List Crossing → Bool
is_put way [] = false
is_put way (crossing ∷ others) = if is_sent way crossing then true else is_put way others

abbrev pub puts_of : List Crossing → Puts
puts_of crossings = record { down = is_put Down crossings; up = is_put Up crossings }

-- ---- an event: first the timers that expire, then the changes of the connections

abbrev pub notes_at : Actors → Event → List Note
notes_at w event =
    expired_at w.controller event
    ++ notes_between (puts_of (crossings w event)) (sights_of w.controller.entries)
    (sights_of (actors_after w event).controller.entries)
