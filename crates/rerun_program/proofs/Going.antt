-- SPDX-License-Identifier: MIT OR Apache-2.0
-- A step that was done, and a run that begins with it.
use Rattle.std.proofs.Common.{◌≡◌, ℕ, List, [], ◌∷◌, Option, Some, None, Result, Ok, Err, option_map, refl, sym, subst, ◌∙◌, append-nil, Bool, true, false, ap}
use Rattle.std.specs.Prelude.{OnOk, is_some}
use Rattle.std.specs.Io.KnownBytes.{Appends, Keeps}
use Rattle.std.proofs.lemmas.Bool.{both_ways}
use Rattle.std.proofs.lemmas.Result.{on_ok_weaker}
use Rattle.record_steps.specs.Steps.{StepDone}
use Rattle.rerun.specs.declared.difference.Extent.{Extent}
use Rattle.rerun_program.specs.Going.{Begins, Continues, CourseState, DoesSteps, Goes, GoesOn, MayGoOn, StepMayGoOn, behind_step, printed_of, seen, stops_in}
use Rattle.rerun_program.specs.GoingLaws.{goes_both, kept_both}
use Rattle.rerun_program.specs.declared.course.Course.{Course}
use Rattle.rerun_program.specs.declared.plan.Mode.{Mode}
use Rattle.rerun_program.specs.declared.plan.Mode.TheVariants.{Compare, Show}
use Rattle.rerun_program.specs.declared.plan.Plan.{Plan}
use Rattle.rerun_program.specs.declared.stop.Stop.{Stop}

pub ok_by : {A : Type 0} (P : Type 0) (r : Result A Stop) → P → OnOk r P
ok_by P (Ok x) p = p
ok_by P (Err e) p = tt

pub does_one : (old new : CourseState) (extent : Extent) (done : StepDone) (before later : Option (List ℕ)) → new ≡ behind_step old done
    → StepMayGoOn old extent done → Appends before later (printed_of old extent done) → DoesSteps old new before later
does_one old new extent done before later is alike text = record {
  steps = record { extent = extent; done = done } ∷ [];
  state = is;
  alike = (alike, tt);
  printed = subst (Appends before later) (sym (append-nil (printed_of old extent done))) text;
}

pub does_one_ok : {A : Type 0} (r : Result A Stop) (old new : CourseState) (extent : Extent) (done : StepDone) (before later : Option (List ℕ))
    → OnOk r (new ≡ behind_step old done) → OnOk r (StepMayGoOn old extent done) → OnOk r (Appends before later (printed_of old extent done))
    → OnOk r (DoesSteps old new before later)
does_one_ok (Ok x) old new extent done before later is alike text = does_one old new extent done before later is alike text
does_one_ok (Err e) old new extent done before later is alike text = tt

continued : (plan : Plan) (old : Course) (new : Option Course) (before later : Option (List ℕ)) → Continues (Some old) new before later
    → Goes plan (Some old) new before later
continued plan old (Some new) before later does = does
continued plan old None before later does = absurd does

pub goes_by : (plan : Plan) (old mid new : Option Course) (before later : Option (List ℕ)) → Begins plan old mid
    → Continues mid new before later → Goes plan old new before later
goes_by plan (Some old) mid new before later begins does = continued plan old new before later
    (subst (λ (m : Option Course). Continues m new before later) begins does)
goes_by plan None (Some mid) (Some new) before later begins does = (seen mid, begins, does)
goes_by plan None (Some mid) None before later begins does = absurd does
goes_by plan None None new before later begins does = absurd begins

pub last_goes : {A : Type 0} (plan : Plan) (r : Result A Stop) (old : Option Course) (inside new : Course) (extent : Extent) (done : StepDone)
    (before later : Option (List ℕ)) → old ≡ Some inside → OnOk r (seen new ≡ behind_step (seen inside) done)
    → OnOk r (StepMayGoOn (seen inside) extent done) → OnOk r (Appends before later (printed_of (seen inside) extent done))
    → OnOk r (Goes plan old (Some new) before later)
last_goes plan r old inside new extent done before later is state alike text =
    subst (λ (o : Option Course). OnOk r (Goes plan o (Some new) before later)) (sym is)
    (does_one_ok r (seen inside) (seen new) extent done before later state alike text)

-- a step that didn't stop
pub may_go_on : (mode new_mode : Mode) (difference : Option ℕ) (differs stops : Bool) → new_mode ≡ mode → differs ≡ is_some difference
    → stops ≡ stops_in new_mode differs → stops ≡ false → MayGoOn mode difference
may_go_on Compare new_mode difference differs stops same is says goes = tt
may_go_on Show new_mode None differs stops same is says goes = refl
may_go_on Show new_mode (Some at) differs stops same is says goes =
    let yes : stops ≡ true = says ∙ ap (λ (m : Mode). stops_in m differs) same ∙ is in
    absurd (both_ways stops goes yes)

-- a part that was begun, read, and ended
pub read_goes : {A : Type 0} (r : Result A Stop) (plan begun_plan read_plan : Plan) (old begun read new : Option Course)
    (before began between later : Option (List ℕ)) → begun_plan ≡ plan → begun ≡ old → began ≡ before → read_plan ≡ begun_plan
    → Goes begun_plan begun read began between → OnOk r (Goes read_plan read new between later) → OnOk r (Goes plan old new before later)
read_goes r plan begun_plan read_plan old begun read new before began between later same is kept still goes ends =
    let first : Goes plan begun read began between = subst (λ (p : Plan). Goes p begun read began between) same goes in
    let second : Goes plan old read began between = subst (λ (c : Option Course). Goes plan c read began between) is first in
    let third : Goes plan old read before between = subst (λ (t : Option (List ℕ)). Goes plan old read t between) kept second in
    on_ok_weaker r
    (λ more. kept_both plan read_plan (option_map seen old) (option_map seen read) (option_map seen new) before between later (still ∙ same)
    third more)
    ends

-- a flush adds nothing
keeps_nothing : (old new : Option (List ℕ)) → Keeps old new → Appends old new []
keeps_nothing None new keeps = tt
keeps_nothing (Some xs) None keeps = absurd keeps
keeps_nothing (Some xs) (Some ys) keeps = keeps ∙ sym (append-nil xs)

goes_kept : (plan : Plan) (s : Option CourseState) (between later : Option (List ℕ)) → Appends between later [] → GoesOn plan s s between later
goes_kept plan None between later nothing = nothing
goes_kept plan (Some s) between later nothing = record { steps = []; state = refl; alike = tt; printed = nothing }

pub flushed : (plan : Plan) (old new : Option Course) (before between later : Option (List ℕ)) → Goes plan old new before between
    → Keeps between later → Goes plan old new before later
flushed plan old new before between later goes keeps =
    goes_both plan (option_map seen old) (option_map seen new) (option_map seen new) before between later goes
    (goes_kept plan (option_map seen new) between later (keeps_nothing between later keeps))
