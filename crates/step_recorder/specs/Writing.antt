-- SPDX-License-Identifier: MIT OR Apache-2.0
-- The entries of a run, and the state of its writer.
use Rattle.std.specs.Prelude.{ℕ, Bool, ◌==◌, ◌&&◌, ◌||◌, nat_lt, if◌then◌else◌, List, [], map}
use Rattle.conn_messages.specs.declared.out.Out.{Out}
use Rattle.controller_model.specs.declared.step.Step.{Step}
use Rattle.record_steps.specs.declared.recorded_step.PutFrame.{PutFrame}
use Rattle.record_steps.specs.Runs.{entries_of_step, put_entry, stamped}
use Rattle.run_record.specs.declared.entry.Entry.TheVariants.{Head}
use Rattle.run_record.specs.declared.entry.Stamp.{Stamp}
use Rattle.run_record.specs.declared.entry.Stamped.{Stamped}
use Rattle.run_record.specs.declared.place.Place.{Place}
use Rattle.run_record.specs.Reads.{beginning}
use Rattle.run_record.specs.Record.{behind}

-- The later of two times.
abbrev pub is_before : Stamp → Stamp → Bool
is_before one other =
    nat_lt one.seconds other.seconds
    || (one.seconds == other.seconds && nat_lt one.microseconds other.microseconds)

abbrev pub later : Stamp → Stamp → Stamp
later one other = if is_before one other then other else one

-- The state of a writer: the place of the next packet, and the time of the last one.
pub record WriterState : Type 0 where
  pub place : Place
  pub stamp : Stamp

-- The state of a new writer.
abbrev pub first_state : WriterState
first_state = record { place = beginning; stamp = record { seconds = 0; microseconds = 0 } }

-- A frame that a step puts.
abbrev pub put_of : Out → PutFrame
put_of out = record { link = out.to; frame = out.frame }

-- The entries of these frames at this time.
abbrev pub put_entries : Stamp → List Out → List Stamped
put_entries stamp outs = map (λ out. put_entry stamp (put_of out)) outs

-- The entries of a step at this time, and of the frames that it puts.
abbrev pub step_entries : Stamp → Step → List Out → List Stamped
step_entries stamp step outs =
    entries_of_step (record { stamp = stamp; step = step; puts = map put_of outs })

-- The state after these entries of this time.
abbrev pub state_behind : Place → Stamp → List Stamped → WriterState
state_behind place stamp entries = record { place = behind place entries; stamp = stamp }

-- The entries of the head in these pieces.
abbrev pub head_entries : Stamp → List (List ℕ) → List Stamped
head_entries stamp pieces = map (λ piece. stamped stamp (Head piece)) pieces
