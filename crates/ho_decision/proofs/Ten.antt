-- SPDX-License-Identifier: MIT OR Apache-2.0
-- The averages and the decision over the last ten reports are those over all reports.
use Rattle.std.proofs.Common.{◌≡◌, ℕ, ◌-◌, ◌/◌, ◌%◌, ◌<◌, ◌≤◌, ◌==◌, ◌||◌, Bool, true, false, nat_le, List, [], ◌∷◌, ◌++◌, length, drop, sum_by, count_by, refl, sym, ap, ◌∙◌, arith, Some, length-append, subst, if◌then◌else◌}
use Rattle.std.proofs.lemmas.List.{drop-drop, drop-append-le, length-drop}
use Rattle.dtap_codec.specs.declared.report.Report.{Report}
use Rattle.ho_decision.specs.declared.settings.Cell.{Cell}
use Rattle.ho_decision.specs.declared.decision.Decision.{Decision}
use Rattle.ho_decision.specs.declared.decision.Decision.TheVariants.{Stay, Move}
use Rattle.ho_decision.specs.declared.decision.TheConstants.{BAD_REPORTS, QUALITY_WINDOW}
use Rattle.ho_decision.specs.declared.settings.TheConstants.{MAX_WINDOW}
use Rattle.ho_decision.specs.Settings.{Settings, IsAllowed}
use Rattle.ho_decision.specs.Average.{last, average, quality, serving_average, neighbour_average}
use Rattle.ho_decision.specs.State.{State, DecidesFor, after_report}
use Rattle.ho_decision.specs.Decision.{is_bad, is_due, average_at, Chooses, Decides}

-- the last n of the last m, where n is no more
pub last-last : {X : Type 0} (n m : ℕ) (xs : List X) → n ≤ m → last n (last m xs) ≡ last n xs
last-last n m xs within =
    drop-drop (length (last m xs) - n) (length xs - m) xs
    ∙ ap (λ k. drop k xs) (omega (arith, length-drop (length xs - m) xs))

-- the last n, after one more, are those of the last n before
pub last-push : {X : Type 0} (n : ℕ) (xs : List X) (x : X) → last n (last n xs ++ x ∷ []) ≡ last n (xs ++ x ∷ [])
last-push n xs x =
    let k = length xs - n in
    let all = xs ++ x ∷ [] in
    let front : drop k all ≡ drop k xs ++ x ∷ [] = drop-append-le k xs (x ∷ []) (omega arith) in
    ap (λ ys. last n ys) (sym front)
    ∙ drop-drop (length (drop k all) - n) k all
    ∙ ap (λ j. drop j all) (omega (arith, length-drop k all, length-append xs (x ∷ [])))

average-last : (value : Report → ℕ) (w : ℕ) (reports : List Report) →
    w ≤ MAX_WINDOW →
    average value w reports ≡ average value w (last MAX_WINDOW reports)
average-last value w reports within =
    sym (ap (λ ys. sum_by value ys / length ys) (last-last w MAX_WINDOW reports within))

pub serving_average-last : (s : Settings) (reports : List Report) →
    IsAllowed s →
    serving_average s reports ≡ serving_average s (last MAX_WINDOW reports)
serving_average-last s reports allowed = average-last (λ r. r.rxlev_full) s.parameters.rxlev_window reports allowed.rxlev_window.1

pub neighbour_average-last : (s : Settings) (reports : List Report) (cell : Cell) →
    IsAllowed s →
    neighbour_average s reports cell ≡ neighbour_average s (last MAX_WINDOW reports) cell
neighbour_average-last s reports cell allowed = average-last _ s.parameters.neighbour_window reports allowed.neighbour_window.1

-- with a report there is an average quality
pub quality-some : (s : Settings) (reports : List Report) →
    0 < length reports →
    quality s reports ≡ Some (average (λ x. x.rxqual_full) s.parameters.rxqual_window reports)
quality-some s [] h = absurd (omega arith)
quality-some s (r ∷ rs) h = refl

pub quality-last : (s : Settings) (reports : List Report) → IsAllowed s → quality s reports ≡ quality s (last MAX_WINDOW reports)
quality-last s [] allowed = refl
quality-last s (r ∷ rs) allowed =
    let all : List Report = r ∷ rs in
    let some : 0 < length (last MAX_WINDOW all) = omega (arith, length-drop (length all - MAX_WINDOW) all) in
    ap Some (average-last (λ x. x.rxqual_full) s.parameters.rxqual_window all allowed.rxqual_window.1)
    ∙ sym (quality-some s (last MAX_WINDOW all) some)

is_due-last : (s : Settings) (reports : List Report) (number : ℕ) →
    IsAllowed s →
    is_due s reports number ≡ is_due s (last MAX_WINDOW reports) number
is_due-last s reports number allowed =
    let at_end = number % s.parameters.interval == s.parameters.interval - 1 in
    ap (λ ys. nat_le BAD_REPORTS (count_by is_bad ys) || (serving_average s reports == 0) || at_end) (sym (last-last QUALITY_WINDOW MAX_WINDOW reports (omega arith)))
    ∙ ap (λ v. nat_le BAD_REPORTS (count_by is_bad (last QUALITY_WINDOW (last MAX_WINDOW reports))) || (v == 0) || at_end) (serving_average-last s reports allowed)

empty_last : (reports : List Report) → last MAX_WINDOW reports ≡ [] → reports ≡ []
empty_last [] e = refl
empty_last (r ∷ rs) e =
    absurd (omega (arith, ap (λ (ys : List Report). length ys) e, length-drop (length (r ∷ rs) - MAX_WINDOW) (r ∷ rs)))

last-empty : (reports : List Report) → reports ≡ [] → last MAX_WINDOW reports ≡ []
last-empty reports e = ap (λ ys. last MAX_WINDOW ys) e

-- Two lists of reports decide alike.
record Alike (s : Settings) (number : ℕ) (these those : List Report) : Type 0 where
  some : these ≡ [] → those ≡ []
  none : those ≡ [] → these ≡ []
  due : is_due s these number ≡ is_due s those number
  serving : serving_average s these ≡ serving_average s those
  level : (place : ℕ) → average_at s these place ≡ average_at s those place

chooses_alike : (s : Settings) (number : ℕ) (these those : List Report) (many : ℕ) (d : Decision) →
    Alike s number these those →
    Chooses s these many d →
    Chooses s those many d
chooses_alike s number these those many Stay alike h =
    λ place other. omega (arith, h place other, alike.level place, alike.serving)
chooses_alike s number these those many (Move to) alike h = (
  h.0,
  h.1,
  record {
    cell = h.2.cell;
    reaches = omega (arith, h.2.reaches, alike.level h.0, alike.serving);
    greatest = λ j other. omega (arith, h.2.greatest j other, alike.level h.0, alike.level j);
    first = λ j other before. omega (arith, h.2.first j other before, alike.level h.0, alike.level j);
  },
)

decides_alike : (s : Settings) (number : ℕ) (these those : List Report) (d : Decision) →
    Alike s number these those →
    Decides s these number d →
    Decides s those number d
decides_alike s number these those d alike h = record {
  none = λ e. h.none (alike.none e);
  not_due = λ e. h.not_due (alike.due ∙ e);
  due = λ some due.
      chooses_alike s number these those (length s.cells) d alike
      (h.due (λ e. some (alike.some e)) (alike.due ∙ due));
}

pub decides_of_last : (s : Settings) (reports : List Report) (number : ℕ) (d : Decision) →
    IsAllowed s →
    Decides s (last MAX_WINDOW reports) number d →
    Decides s reports number d
decides_of_last s reports number d allowed =
    decides_alike s number (last MAX_WINDOW reports) reports d record {
      some = empty_last reports;
      none = last-empty reports;
      due = sym (is_due-last s reports number allowed);
      serving = sym (serving_average-last s reports allowed);
      level = λ place. sym (neighbour_average-last s reports _ allowed);
    }

pub decides_last : (s : Settings) (reports : List Report) (number : ℕ) (d : Decision) →
    IsAllowed s →
    Decides s reports number d →
    Decides s (last MAX_WINDOW reports) number d
decides_last s reports number d allowed =
    decides_alike s number reports (last MAX_WINDOW reports) d record {
      some = last-empty reports;
      none = empty_last reports;
      due = is_due-last s reports number allowed;
      serving = serving_average-last s reports allowed;
      level = λ place. neighbour_average-last s reports _ allowed;
    }

-- where the levels aren't compared over all reports, the decision over the last ten is `Stay`
pub stays_last : (s : Settings) (reports : List Report) (number : ℕ) →
    IsAllowed s →
    is_due s reports number ≡ false →
    Decides s (last MAX_WINDOW reports) number Stay
stays_last s reports number allowed not_due = record {
  none = λ e. refl;
  not_due = λ e. refl;
  due = λ some due. let never : (let x : Bool = true in x) ≡ false = sym due ∙ sym (is_due-last s reports number allowed) ∙ not_due in absurd cc;
}

-- the same after a valid report
pub stays_after : (state : State) (report : Report) (number : ℕ) → IsAllowed state.settings → report.valid ≡ true →
    is_due state.settings (state.reports ++ report ∷ []) number ≡ false → DecidesFor (after_report state report number) Stay
stays_after state report number allowed valid not_due =
    let after : State = record state {
      reports = last MAX_WINDOW (state.reports ++ report ∷ []);
      number = number;
    } in
    let P : Bool → Type 0 = λ b. DecidesFor (if b then after else state) Stay in
    subst P (sym valid) (stays_last state.settings (state.reports ++ report ∷ []) number allowed not_due)
