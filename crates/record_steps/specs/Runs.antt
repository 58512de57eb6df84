-- SPDX-License-Identifier: MIT OR Apache-2.0
-- A run, as the entries of its record.
use Rattle.std.specs.Prelude.{◌≡◌, ◌⊎◌, ◌<◌, ℕ, List, [], ◌∷◌, ◌++◌, map, None}
use Rattle.std.specs.List.{AllByRecursion}
use Rattle.controller_model.specs.declared.step.Step.{Step}
use Rattle.controller_model.specs.declared.step.Step.TheVariants.{Take, Tick}
use Rattle.record_steps.specs.declared.recorded_step.PutFrame.{PutFrame}
use Rattle.record_steps.specs.declared.step_reader.Part.TheVariants as parts
use Rattle.record_steps.specs.Reading.{fault_from, first_reading, handed}
use Rattle.record_steps.specs.Steps.{StepDone, steps_of}
use Rattle.run_record.specs.declared.entry.Entry.{Entry}
use Rattle.run_record.specs.declared.entry.Entry.TheVariants.{Took, Passed, Put, Head}
use Rattle.run_record.specs.declared.entry.Stamp.{Stamp}
use Rattle.run_record.specs.declared.entry.Stamped.{Stamped}
use Rattle.run_record.specs.declared.next.Next.{Next}
use Rattle.run_record.specs.declared.next.Next.TheVariants.{Cut, End}
use Rattle.run_record.specs.declared.next.Opening.TheVariants as openings
use Rattle.run_record.specs.Reading.{opening_of}
use Rattle.run_record.specs.Reads.{Reads}

-- ---- what is written

abbrev pub stamped : Stamp → Entry → Stamped
stamped stamp entry = record { stamp = stamp; entry = entry }

abbrev pub step_entry : Step → Entry
step_entry (Take item) = Took item.source item.what
step_entry (Tick ms) = Passed ms

abbrev pub put_entry : Stamp → PutFrame → Stamped
put_entry stamp put = stamped stamp (Put put.link put.frame)

-- The entries of a step: what it took, then the frames that it put.
abbrev pub entries_of_step : StepDone → List Stamped
entries_of_step s = stamped s.stamp (step_entry s.step) ∷ map (put_entry s.stamp) s.puts

abbrev pub entries_of : List StepDone → List Stamped
entries_of [] = []
entries_of (s ∷ steps) = entries_of_step s ++ entries_of steps

-- The entries of a run: the pieces of the head, written at the time `stamp`, then the entries of
-- the steps.
abbrev pub entries_with : Stamp → List (List ℕ) → List StepDone → List Stamped
entries_with stamp pieces steps = map (λ piece. stamped stamp (Head piece)) pieces ++ entries_of steps

-- ---- links

abbrev pub IsOfLink : ℕ → Step → Type 0
IsOfLink links (Take item) = item.source < links
IsOfLink links (Tick ms) = Unit {0}

-- The link of the item that the step took, if any, and the link of each frame that the step put are
-- below `links`.
pub record IsOfLinks (links : ℕ) (s : StepDone) : Type 0 where
  pub takes : IsOfLink links s.step
  pub puts : AllByRecursion (λ (put : PutFrame). put.link < links) s.puts

abbrev pub AreOfLinks : ℕ → List StepDone → Type 0
AreOfLinks links steps = AllByRecursion (IsOfLinks links) steps

-- ---- a record that was cut

-- The step that was read equals the step that was written, but may lack the last of its frames.
pub record BeginsAs (read written : StepDone) : Type 0 where
  pub stamp : read.stamp ≡ written.stamp
  pub step : read.step ≡ written.step
  pub missing : List PutFrame
  pub puts : written.puts ≡ read.puts ++ missing

-- The steps that were read are the first of the steps that were written. Only the last step that
-- was read may lack frames: the last frames that it put.
abbrev pub AreFirst : List StepDone → List StepDone → Type 0
AreFirst [] written = Unit {0}
AreFirst (r ∷ read) [] = ⊥
AreFirst (r ∷ read) (w ∷ written) =
    ((r ≡ w) × AreFirst read written) ⊎ ((read ≡ []) × BeginsAs r w)

-- ---- what is read of a file

-- Octets are read as entries without a fault for a run with `links` links, and then end as `how`
-- says. The entries have these steps, and the reader hands out these steps.
pub record ReadsSteps (links : ℕ) (octets : List ℕ) (how : Next)
    (steps : List StepDone) : Type 0 where
  pub entries : List Stamped
  pub reads : Reads octets entries how
  pub sound : fault_from links parts.Head entries ≡ None
  pub are : steps_of entries ≡ steps
  pub handed_out : handed first_reading entries ≡ steps

-- Octets are read as the first of the steps that were written, and then end or are cut.
pub record ReadsFirst (links : ℕ) (octets : List ℕ) (written : List StepDone) : Type 0 where
  pub how : Next
  pub ends : (how ≡ End) ⊎ (how ≡ Cut)
  pub steps : List StepDone
  pub reads : ReadsSteps links octets how steps
  pub first : AreFirst steps written

abbrev pub IsCut : ℕ → List ℕ → List StepDone → Type 0
IsCut links octets written =
    (opening_of octets ≡ openings.Cut) ⊎ ReadsFirst links octets written
