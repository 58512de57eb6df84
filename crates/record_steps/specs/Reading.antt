-- SPDX-License-Identifier: MIT OR Apache-2.0
-- Steps are assembled from entries, one by one; entries with a fault are refused.
use Rattle.std.specs.Prelude.{◌≡◌, ℕ, nat_lt, if◌then◌else◌, List, [], ◌∷◌, ◌++◌}
use Rattle.std.specs.Prelude.{Option, Some, None, option_to_list}
use Rattle.controller_model.specs.declared.step.Step.{Step}
use Rattle.controller_model.specs.declared.step.Step.TheVariants.{Take, Tick}
use Rattle.record_steps.specs.declared.recorded_step.PutFrame.{PutFrame}
use Rattle.record_steps.specs.declared.step_fault.StepFault.{StepFault}
use Rattle.record_steps.specs.declared.step_fault.StepFault.TheVariants.{BehindEnd}
use Rattle.record_steps.specs.declared.step_fault.StepFault.TheVariants.{HeadBehindStep, Memory}
use Rattle.record_steps.specs.declared.step_fault.StepFault.TheVariants.{NoLink, PutBeforeStep}
use Rattle.record_steps.specs.declared.step_reader.Part.{Part}
use Rattle.record_steps.specs.declared.step_reader.Part.TheVariants as parts
use Rattle.record_steps.specs.Steps.{StepDone}
use Rattle.run_record.specs.declared.entry.Entry.{Entry}
use Rattle.run_record.specs.declared.entry.Entry.TheVariants.{Head, Took, Passed, Put, Lost}
use Rattle.run_record.specs.declared.entry.Stamp.{Stamp}
use Rattle.run_record.specs.declared.entry.Stamped.{Stamped}

-- ---- faults

abbrev pub part_behind : Entry → Part
part_behind (Head octets) = parts.Head
part_behind (Took link what) = parts.Steps
part_behind (Passed ms) = parts.Steps
part_behind (Put link frame) = parts.Steps
part_behind Lost = parts.End

-- The fault of an entry at the wrong place: a put before any step, a piece of the head after a
-- step, or any entry after the end.
abbrev pub order_fault : Part → Entry → Option StepFault
order_fault parts.End entry = Some BehindEnd
order_fault parts.Head (Put link frame) = Some PutBeforeStep
order_fault parts.Steps (Head octets) = Some HeadBehindStep
order_fault part entry = None

-- The fault of a link's number that isn't below the number of links.
abbrev pub number_fault : ℕ → ℕ → Option StepFault
number_fault links link = if nat_lt link links then None else Some (NoLink link)

abbrev pub link_fault : ℕ → Entry → Option StepFault
link_fault links (Took link what) = number_fault links link
link_fault links (Put link frame) = number_fault links link
link_fault links entry = None

abbrev pub first_of : Option StepFault → Option StepFault → Option StepFault
first_of None other = other
first_of (Some fault) other = Some fault

-- The fault of an entry that follows the part `part`.
abbrev pub entry_fault : ℕ → Part → Entry → Option StepFault
entry_fault links part entry = first_of (order_fault part entry) (link_fault links entry)

-- `sound_from`: the entries before the first entry with a fault. `fault_from`: the fault of that
-- entry.
abbrev pub unless : {X : Type 0} → Option StepFault → X → X → X
unless None x y = x
unless (Some fault) x y = y

abbrev pub sound_from : ℕ → Part → List Stamped → List Stamped
sound_from links part [] = []
sound_from links part (this ∷ entries) =
    unless (entry_fault links part this.entry)
    (this ∷ sound_from links (part_behind this.entry) entries) []

abbrev pub fault_from : ℕ → Part → List Stamped → Option StepFault
fault_from links part [] = None
fault_from links part (this ∷ entries) =
    first_of (entry_fault links part this.entry)
    (fault_from links (part_behind this.entry) entries)

-- ---- the reader

-- The state of the reader: the part that was read last, and the step whose frames may still follow.
pub record Reading : Type 0 where
  pub part : Part
  pub step : Option StepDone

abbrev pub first_reading : Reading
first_reading = record { part = parts.Head; step = None }

-- The result of an entry: the preceding step, if the entry begins a step, and the reader's new
-- state.
pub record Taken : Type 0 where
  pub done : Option StepDone
  pub next : Reading

abbrev pub kept : Part → Option StepDone → Taken
kept part step = record { done = None; next = record { part = part; step = step } }

abbrev pub begun : Stamp → Step → Option StepDone → Taken
begun stamp step before = record {
  done = before;
  next = record {
    part = parts.Steps;
    step = Some (record { stamp = stamp; step = step; puts = [] });
  };
}

abbrev pub with_put : PutFrame → Option StepDone → Option StepDone
with_put put None = None
with_put put (Some s) = Some (record s { puts = s.puts ++ put ∷ [] })

abbrev pub taken_by : Stamp → Entry → Option StepDone → Taken
taken_by stamp (Head octets) step = kept parts.Head step
taken_by stamp (Took link what) step =
    begun stamp (Take (record { source = link; what = what })) step
taken_by stamp (Passed ms) step = begun stamp (Tick ms) step
taken_by stamp (Put link frame) step =
    kept parts.Steps (with_put (record { link = link; frame = frame }) step)
taken_by stamp Lost step = kept parts.End step

abbrev pub taken : Reading → Stamped → Taken
taken r this = taken_by this.stamp this.entry r.step

-- ---- one entry

abbrev pub IsNoFault : ℕ → Reading → Stamped → Type 0
IsNoFault links r this = entry_fault links r.part this.entry ≡ None

-- The entry has the fault `fault`, or the entry has no fault and an allocation failed (`Memory`).
abbrev pub FaultIs : ℕ → Reading → Stamped → StepFault → Type 0
FaultIs links r this Memory = IsNoFault links r this
FaultIs links r this fault = entry_fault links r.part this.entry ≡ Some fault

-- ---- all entries

-- All steps that are handed out from entries without a fault; the last step is handed out at the
-- end.
abbrev pub handed : Reading → List Stamped → List StepDone
handed r [] = option_to_list r.step
handed r (this ∷ entries) =
    option_to_list (taken r this).done ++ handed (taken r this).next entries
