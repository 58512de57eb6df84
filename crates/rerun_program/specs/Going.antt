-- SPDX-License-Identifier: MIT OR Apache-2.0
-- How a run goes on: the steps that its controller did, and what is printed of them.
use Rattle.std.specs.Prelude.{◌≡◌, ℕ, ◌+◌, ◌-◌, ◌^◌, Bool, false, min, List, [], ◌∷◌, ◌++◌, Option, Some, None}
use Rattle.std.specs.Prelude.{option_map}
use Rattle.std.specs.Io.KnownBytes.{Appends}
use Rattle.controller_model.specs.Controller.{Controller, new_controller}
use Rattle.controller_model.specs.Life.{step}
use Rattle.record_steps.specs.Steps.{StepDone}
use Rattle.rerun.specs.declared.difference.Extent.{Extent}
use Rattle.rerun_lines.specs.declared.step_lines.View.{View}
use Rattle.rerun_program.specs.Done.{differs_at, mark_of, step_printed}
use Rattle.rerun_program.specs.declared.course.Course.{Course}
use Rattle.rerun_program.specs.declared.plan.Mode.{Mode}
use Rattle.rerun_program.specs.declared.plan.Mode.TheVariants.{Compare, Show}
use Rattle.rerun_program.specs.declared.plan.Plan.{Plan}
use Rattle.settings.specs.Parameters.{Parameters}

-- what is printed of each step, how many steps were done, and the controller behind them
pub record CourseState : Type 0 where
  pub mode : Mode
  pub view : View
  pub count : ℕ
  pub controller : Controller

abbrev pub seen : Course → CourseState
seen c = record { mode = c.mode; view = c.view; count = c.count; controller = c.rerun }

-- a step, and which of its frames the record has
pub record Doing : Type 0 where
  pub extent : Extent
  pub done : StepDone

abbrev pub behind_step : CourseState → StepDone → CourseState
behind_step s done = record {
  mode = s.mode;
  view = s.view;
  count = min (s.count + 1) (2 ^ 64 - 1);
  controller = (step s.controller done.step).next;
}

abbrev pub printed_of : CourseState → Extent → StepDone → List ℕ
printed_of s extent done = step_printed s.mode s.view extent (mark_of s.count done) s.controller done

-- steps one after the other
abbrev pub behind_steps : CourseState → List Doing → CourseState
behind_steps s [] = s
behind_steps s (d ∷ steps) = behind_steps (behind_step s d.done) steps

abbrev pub all_printed : CourseState → List Doing → List ℕ
all_printed s [] = []
all_printed s (d ∷ steps) =
    printed_of s d.extent d.done ++ all_printed (behind_step s d.done) steps

-- Where lines are shown, a run goes on only while it puts the frames of its record.
abbrev pub MayGoOn : Mode → Option ℕ → Type 0
MayGoOn Show difference = difference ≡ None
MayGoOn Compare difference = Unit {0}

abbrev pub StepMayGoOn : CourseState → Extent → StepDone → Type 0
StepMayGoOn s extent done = MayGoOn s.mode (differs_at extent s.controller done)

abbrev pub AllMayGoOn : CourseState → List Doing → Type 0
AllMayGoOn s [] = Unit {0}
AllMayGoOn s (d ∷ steps) =
    StepMayGoOn s d.extent d.done × AllMayGoOn (behind_step s d.done) steps

-- whether a run stops at a step
abbrev pub stops_in : Mode → Bool → Bool
stops_in Show differs = differs
stops_in Compare differs = false

-- Steps were done, each of which may go on, and known contents grew by what is printed of them.
pub record DoesSteps (old new : CourseState) (before later : Option (List ℕ)) : Type 0 where
  pub steps : List Doing
  pub state : new ≡ behind_steps old steps
  pub alike : AllMayGoOn old steps
  pub printed : Appends before later (all_printed old steps)

-- a new controller, of which no step was asked yet
pub record IsBegun (plan : Plan) (s : CourseState) : Type 0 where
  pub settings : Parameters
  pub controller : s.controller ≡ new_controller settings
  pub count : s.count ≡ 0
  pub mode : s.mode ≡ plan.mode
  pub choice : s.view.choice ≡ plan.choice

-- A run begins with its first step, by a new controller.
abbrev pub GoesOn : Plan → Option CourseState → Option CourseState → Option (List ℕ)
    → Option (List ℕ) → Type 0
GoesOn plan None None before later = Appends before later []
GoesOn plan None (Some new) before later =
    (begun : CourseState) × IsBegun plan begun × DoesSteps begun new before later
GoesOn plan (Some old) None before later = ⊥
GoesOn plan (Some old) (Some new) before later = DoesSteps old new before later

-- the same of what is kept of a run
abbrev pub Goes : Plan → Option Course → Option Course → Option (List ℕ) → Option (List ℕ)
    → Type 0
Goes plan old new before later =
    GoesOn plan (option_map seen old) (option_map seen new) before later

-- whether a step of the run put other frames than the record has; false before the first step
abbrev pub has_differed : Option Course → Bool
has_differed None = false
has_differed (Some course) = course.has_differed

-- a run that goes on, or one that begins
abbrev pub Begins : Plan → Option Course → Option Course → Type 0
Begins plan (Some old) new = new ≡ Some old
Begins plan None (Some new) = IsBegun plan (seen new)
Begins plan None None = ⊥

-- steps of a run that has begun
abbrev pub Continues : Option Course → Option Course → Option (List ℕ) → Option (List ℕ) → Type 0
Continues (Some old) (Some new) before later = DoesSteps (seen old) (seen new) before later
Continues (Some old) None before later = ⊥
Continues None new before later = ⊥
