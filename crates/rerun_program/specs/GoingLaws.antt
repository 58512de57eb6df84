-- SPDX-License-Identifier: MIT OR Apache-2.0
-- Steps one after the other are joined.
use Rattle.std.proofs.Common.{◌≡◌, ℕ, List, [], ◌∷◌, ◌++◌, Option, Some, None, refl, sym, ap, subst}
use Rattle.std.proofs.Common.{◌∙◌, append_assoc}
use Rattle.std.specs.Io.KnownBytes.{Appends}
use Rattle.std.proofs.KnownBytes.{Appends-nil, Appends-trans}
use Rattle.rerun_program.specs.Going.{AllMayGoOn, CourseState, Doing, DoesSteps, GoesOn}
use Rattle.rerun_program.specs.Going.{all_printed, behind_step, behind_steps, printed_of}
use Rattle.rerun_program.specs.declared.plan.Plan.{Plan}

pub behind_both : (s : CourseState) (first second : List Doing)
    → behind_steps s (first ++ second) ≡ behind_steps (behind_steps s first) second
behind_both s [] second = refl
behind_both s (d ∷ first) second = behind_both (behind_step s d.done) first second

pub printed_both : (s : CourseState) (first second : List Doing)
    → all_printed s (first ++ second)
    ≡ all_printed s first ++ all_printed (behind_steps s first) second
printed_both s [] second = refl
printed_both s (d ∷ first) second =
    let text : List ℕ = printed_of s d.extent d.done in
    let next : CourseState = behind_step s d.done in
    ap (λ (xs : List ℕ). text ++ xs) (printed_both next first second)
    ∙ sym (append_assoc text (all_printed next first)
    (all_printed (behind_steps next first) second))

pub all_both : (s : CourseState) (first second : List Doing) → AllMayGoOn s first
    → AllMayGoOn (behind_steps s first) second → AllMayGoOn s (first ++ second)
all_both s [] second some more = more
all_both s (d ∷ first) second some more =
    (some.0, all_both (behind_step s d.done) first second some.1 more)

pub does_none : (s : CourseState) (contents : Option (List ℕ)) → DoesSteps s s contents contents
does_none s contents = record {
  steps = [];
  state = refl;
  alike = tt;
  printed = Appends-nil contents;
}

-- the text behind steps, from where these lead
from_there : (mid there : CourseState) (steps : List Doing) (before later : Option (List ℕ))
    → mid ≡ there → Appends before later (all_printed mid steps)
    → Appends before later (all_printed there steps)
from_there mid there steps before later is text =
    subst (λ (s : CourseState). Appends before later (all_printed s steps)) is text

pub does_both : (old mid new : CourseState) (before between later : Option (List ℕ))
    → DoesSteps old mid before between → DoesSteps mid new between later
    → DoesSteps old new before later
does_both old mid new before between later some more = record {
  steps = some.steps ++ more.steps;
  state =
      more.state
      ∙ ap (λ (s : CourseState). behind_steps s more.steps) some.state
      ∙ sym (behind_both old some.steps more.steps);
  alike =
      all_both old some.steps more.steps some.alike
      (subst (λ (s : CourseState). AllMayGoOn s more.steps) some.state more.alike);
  printed =
      subst (Appends before later) (sym (printed_both old some.steps more.steps))
      (Appends-trans before between later (all_printed old some.steps)
      (all_printed (behind_steps old some.steps) more.steps) some.printed
      (from_there mid (behind_steps old some.steps) more.steps between later some.state
      more.printed));
}

pub goes_none : (plan : Plan) (s : Option CourseState) (contents : Option (List ℕ))
    → GoesOn plan s s contents contents
goes_none plan None contents = Appends-nil contents
goes_none plan (Some s) contents = does_none s contents

-- nothing was printed before the first step
behind_nothing : (old new : CourseState) (before between later : Option (List ℕ))
    → Appends before between [] → DoesSteps old new between later → DoesSteps old new before later
behind_nothing old new before between later nothing more = record {
  steps = more.steps;
  state = more.state;
  alike = more.alike;
  printed =
      Appends-trans before between later [] (all_printed old more.steps) nothing more.printed;
}

pub goes_both : (plan : Plan) (old mid new : Option CourseState)
    (before between later : Option (List ℕ)) → GoesOn plan old mid before between
    → GoesOn plan mid new between later → GoesOn plan old new before later
goes_both plan None None None before between later some more =
    Appends-trans before between later [] [] some more
goes_both plan None None (Some new) before between later some more =
    (more.0, more.1, behind_nothing more.0 new before between later some more.2)
goes_both plan None (Some mid) None before between later some more = absurd more
goes_both plan None (Some mid) (Some new) before between later some more =
    (some.0, some.1, does_both some.0 mid new before between later some.2 more)
goes_both plan (Some old) None new before between later some more = absurd some
goes_both plan (Some old) (Some mid) None before between later some more = absurd more
goes_both plan (Some old) (Some mid) (Some new) before between later some more =
    does_both old mid new before between later some more

-- ---- what a run keeps

-- Its plan is the same, and it goes on.
pub kept_both : (plan mid_plan : Plan) (old mid new : Option CourseState)
    (before between later : Option (List ℕ)) → mid_plan ≡ plan → GoesOn plan old mid before between
    → GoesOn mid_plan mid new between later → GoesOn plan old new before later
kept_both plan mid_plan old mid new before between later same some more =
    goes_both plan old mid new before between later some
    (subst (λ (p : Plan). GoesOn p mid new between later) same more)
