-- SPDX-License-Identifier: MIT OR Apache-2.0
-- The steps in the entries of a record.
use Rattle.std.specs.Prelude.{List, [], ◌∷◌, ◌++◌, ℕ}
use Rattle.controller_model.specs.declared.step.Step.{Step}
use Rattle.controller_model.specs.declared.step.Step.TheVariants.{Take, Tick}
use Rattle.record_steps.specs.declared.recorded_step.PutFrame.{PutFrame}
use Rattle.run_record.specs.declared.entry.Entry.{Entry}
use Rattle.run_record.specs.declared.entry.Entry.TheVariants.{Head, Took, Passed, Put}
use Rattle.run_record.specs.declared.entry.Stamp.{Stamp}
use Rattle.run_record.specs.declared.entry.Stamped.{Stamped}

-- A step: the time when it was written, what it took, and the frames that it put.
pub record StepDone : Type 0 where
  pub stamp : Stamp
  pub step : Step
  pub puts : List PutFrame

-- The frames of the `Put`s that entries begin with.
abbrev pub put_before : Entry → List PutFrame → List PutFrame
put_before (Put link frame) puts = record { link = link; frame = frame } ∷ puts
put_before entry puts = []

abbrev pub puts_at : List Stamped → List PutFrame
puts_at [] = []
puts_at (this ∷ entries) = put_before this.entry (puts_at entries)

-- A taken item, or time that passed, begins a step.
abbrev pub step_before : Stamp → Entry → List PutFrame → List StepDone → List StepDone
step_before stamp (Took link what) puts steps =
    record { stamp = stamp; step = Take (record { source = link; what = what }); puts = puts }
    ∷ steps
step_before stamp (Passed ms) puts steps =
    record { stamp = stamp; step = Tick ms; puts = puts } ∷ steps
step_before stamp entry puts steps = steps

-- The steps of entries, each with the frames that directly follow it.
abbrev pub steps_of : List Stamped → List StepDone
steps_of [] = []
steps_of (this ∷ entries) =
    step_before this.stamp this.entry (puts_at entries) (steps_of entries)

-- The octets of the head: the pieces that entries begin with.
abbrev pub piece_before : Entry → List ℕ → List ℕ
piece_before (Head octets) rest = octets ++ rest
piece_before entry rest = []

abbrev pub head_of : List Stamped → List ℕ
head_of [] = []
head_of (this ∷ entries) = piece_before this.entry (head_of entries)
