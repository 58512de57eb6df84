-- SPDX-License-Identifier: MIT OR Apache-2.0
-- What is printed of a step that a controller did again.
use Rattle.std.specs.Prelude.{ℕ, ◌+◌, ◌-◌, ◌^◌, Bool, false, min, List, [], ◌++◌, Option}
use Rattle.std.specs.Prelude.{Some, None}
use Rattle.conn_messages.specs.declared.out.Out.{Out}
use Rattle.connection_notes.specs.Notes.{notes_at}
use Rattle.controller_model.specs.Controller.{Controller}
use Rattle.controller_model.specs.Life.{step}
use Rattle.controller_model.specs.declared.step.Step.{Step}
use Rattle.record_steps.specs.Steps.{StepDone}
use Rattle.record_steps.specs.declared.recorded_step.PutFrame.{PutFrame}
use Rattle.dtap_codec.specs.Number.{count_of}
use Rattle.rerun.specs.Concerning.{concerns}
use Rattle.rerun.specs.Difference.{first_difference}
use Rattle.rerun.specs.declared.difference.Extent.{Extent}
use Rattle.rerun_lines.specs.DifferenceText.{difference_line}
use Rattle.rerun_lines.specs.StepText.{step_text}
use Rattle.rerun_lines.specs.declared.mark.Mark.{Mark}
use Rattle.rerun_lines.specs.declared.step_lines.View.{View}
use Rattle.rerun_program.specs.declared.plan.Mode.{Mode}
use Rattle.rerun_program.specs.declared.plan.Mode.TheVariants.{Compare, Show}

-- the step behind so many
abbrev pub mark_of : ℕ → StepDone → Mark
mark_of count done = record { number = min (count + 1) (2 ^ 64 - 1); stamp = done.stamp }

-- whether a step takes a frame for the connection that is wanted
abbrev pub concerns_wanted : Controller → Step → Option ℕ → Bool
concerns_wanted c s None = false
concerns_wanted c s (Some number) = concerns c s number

-- lines, where they are shown
abbrev pub shown_in : Mode → List ℕ → List ℕ
shown_in Show lines = lines
shown_in Compare lines = []

-- the lines of a step, where they are shown
abbrev pub lines_at : Mode → View → Mark → Controller → Step → List ℕ
lines_at mode view mark c s =
    shown_in mode
    (step_text (count_of view.modulus) view.choice mark
    (concerns_wanted c s view.choice.conn) s (step c s).outs (notes_at c s))

-- the place of the first frame that differs from the record
abbrev pub differs_at : Extent → Controller → StepDone → Option ℕ
differs_at extent c done = first_difference extent (step c done.step).outs done.puts

-- its line
abbrev pub told : Mark → List Out → List PutFrame → Option ℕ → List ℕ
told mark outs puts None = []
told mark outs puts (Some place) = difference_line mark place outs puts

abbrev pub difference_told : Extent → Mark → Controller → StepDone → List ℕ
difference_told extent mark c done =
    told mark (step c done.step).outs done.puts (differs_at extent c done)

-- what is printed of it, where the run goes on
abbrev pub step_printed : Mode → View → Extent → Mark → Controller → StepDone → List ℕ
step_printed mode view extent mark c done =
    lines_at mode view mark c done.step ++ difference_told extent mark c done
