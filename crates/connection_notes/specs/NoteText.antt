-- SPDX-License-Identifier: MIT OR Apache-2.0
-- The text of a note.
use Rattle.std.specs.Prelude.{ℕ, List, ◌++◌, codes, decimal}
use Rattle.dtap_codec.specs.declared.sapi.Sapi.{Sapi}
use Rattle.dtap_codec.specs.declared.sapi.Sapi.TheVariants.{Zero, Three}
use Rattle.connection_notes.specs.declared.note.Holding.{Holding}
use Rattle.connection_notes.specs.declared.note.Holding.TheVariants.{Held, Relayed, Dropped}
use Rattle.connection_notes.specs.declared.note.Note.{Note}
use Rattle.connection_notes.specs.declared.note.Note.TheVariants.{Expired, Changed, Hold}
use Rattle.connection_notes.specs.declared.note.Timer.{Timer}
use Rattle.connection_notes.specs.declared.note.Timer.TheVariants.{T3101, T3103, T3107, Drain}
use Rattle.connection_notes.specs.declared.note.Way.{Way}
use Rattle.connection_notes.specs.declared.note.Way.TheVariants.{Down, Up}
use Rattle.connection_notes.specs.declared.sight.Phase.{Phase}
use Rattle.connection_notes.specs.declared.sight.Phase.TheVariants as phases

abbrev pub timer_text : Timer → List ℕ
timer_text T3101 = codes "T3101"
timer_text T3103 = codes "T3103"
timer_text T3107 = codes "T3107"
timer_text Drain = codes "drain time"

abbrev pub phase_text : Phase → List ℕ
phase_text phases.Absent = codes "none"
phase_text phases.WaitActivation = codes "WaitActivation"
phase_text phases.WaitEstablish = codes "WaitEstablish"
phase_text phases.WaitConfirm = codes "WaitConfirm"
phase_text phases.Active = codes "Active"
phase_text phases.Preparing = codes "Preparing"
phase_text phases.Changing = codes "Changing"
phase_text phases.Draining = codes "Draining"
phase_text phases.Closed = codes "Closed"

abbrev pub holding_text : Holding → List ℕ
holding_text Held = codes "held"
holding_text Relayed = codes "relayed"
holding_text Dropped = codes "dropped"

abbrev pub way_text : Way → List ℕ
way_text Down = codes "down"
way_text Up = codes "up"

abbrev pub sapi_text : Sapi → List ℕ
sapi_text Zero = codes "SAPI 0"
sapi_text Three = codes "SAPI 3"

abbrev pub note_text : Note → List ℕ
note_text (Expired connection timer) = timer_text timer ++ codes " expired"
note_text (Changed connection from to) = phase_text from ++ codes " to " ++ phase_text to
note_text (Hold connection holding count way sapi) =
    holding_text holding ++ codes " " ++ decimal count ++ codes " " ++ way_text way
    ++ codes " " ++ sapi_text sapi
