-- SPDX-License-Identifier: MIT OR Apache-2.0
-- The call worker from state to state.
use Rattle.std.proofs.Common.{◌≡◌, ℕ, ◌+◌, nat_lt, List, [], ◌∷◌, ◌++◌, length, Result, Ok, Err, refl, sym, ap, ◌∙◌, subst, append-nil, append_assoc, arith}
use Rattle.std.specs.Prelude.{MatchResult}
use Rattle.std.proofs.lemmas.Bool.{false≢true}
use Rattle.std.specs.Result.{IsErr}
use lib.ListN.{get_elem?}
use Rattle.controller_worker.specs.Advancing.{Fits, Advances, AdvancesAlone, Extends, AdvancesPartly, State, ended_of, mark_at}
use Rattle.controller_worker.specs.Moves.{Move, Part, takes, ticks, adds, refuses, down_of, parts_of, steps_of, taken_of}
use Rattle.controller_worker.specs.Links.{IsGivenUpAt}
use Rattle.controller_worker.specs.Stopping.{IsStepOf, IsTickOf, StopsAt}
use Rattle.controller_worker.specs.Steps.{AreOfLinks, over, ticked, whats_of}
use Rattle.controller_worker.specs.Taking.{HasTaken}
use Rattle.controller.specs.Wanting.{MayWantMemory}
use Rattle.controller_model.specs.declared.step.Step.{Step}
use Rattle.controller_model.specs.declared.step.Step.TheVariants.{Take, Tick}
use Rattle.controller_worker.proofs.Histories.{next_both, of_links_both, parts_both, steps_both, taken_of_both, ticked_both, whats_both}
use Rattle.ruled_relay.specs.declared.item.Item.{Item}
use Rattle.ruled_relay.specs.Outbox.{PutterView}
use Rattle.ruled_relay.specs.Row.{Row}

-- ---- the desk

pub taken_none : (desk : Row) → HasTaken desk [] desk
taken_none desk = (refl, λ source e here. (e, here, sym (append-nil e.seen.taken)))

pub taken_both : (a b c : Row) (xs ys : List Item) → HasTaken a xs b → HasTaken b ys c → HasTaken a (xs ++ ys) c
taken_both a b c xs ys f g = (
  g.0 ∙ f.0,
  λ source e here.
      let later = g.1 source e here in
      let before = f.1 source later.0 later.1 in (
        before.0,
        before.1,
        later.2 ∙ ap (λ ts. ts ++ whats_of source ys) before.2 ∙ append_assoc before.0.seen.taken (whats_of source xs) (whats_of source ys)
            ∙ ap (λ ts. before.0.seen.taken ++ ts) (sym (whats_both source xs ys)),
      ),
)

-- ---- one link

pub on_both : (a b c : State) (link : ℕ) (xs ys : List Part) (p q r : PutterView) →
    Extends a b link xs p q →
    Extends b c link ys q r →
    Extends a c link (xs ++ ys) p r
on_both a b c link xs ys p q r f g = record {
  queue = g.queue ∙ f.queue;
  given_up = λ h. g.given_up (f.given_up h);
  fits = λ past h. subst (λ ps. Fits (ended_of c link) r (mark_at c.marks link) link ps) (append_assoc past xs ys) (g.fits (past ++ xs) (f.fits past h));
}

-- ---- the whole

course_on : (first last both : List Item) (a b c : State) (f : Advances first a b) (g : Advances last b c)
    → (taken_of f.moves ++ first) ++ (taken_of g.moves ++ last) ≡ (taken_of f.moves ++ taken_of g.moves) ++ both → Advances both a c
course_on first last both a b c f g items = record {
  moves = f.moves ++ g.moves;
  controller =
      g.controller ∙ ap (λ d. (over d (steps_of g.moves)).next) f.controller ∙ sym (next_both a.controller (steps_of f.moves) (steps_of g.moves))
      ∙ ap (λ ss. (over a.controller ss).next) (sym (steps_both f.moves g.moves));
  desk =
      subst (λ is. HasTaken a.desk is c.desk) (items ∙ ap (λ is. is ++ both) (sym (taken_of_both f.moves g.moves)))
      (taken_both a.desk b.desk c.desk (taken_of f.moves ++ first) (taken_of g.moves ++ last) f.desk g.desk);
  time =
      let x = f.time in
      let y = g.time in
      let z = ap ticked (steps_both f.moves g.moves) ∙ ticked_both (steps_of f.moves) (steps_of g.moves) in omega arith;
  count = g.count ∙ f.count;
  of_links =
      subst (λ ss. AreOfLinks (length a.putters) ss) (sym (steps_both f.moves g.moves))
      (of_links_both (length a.putters) (steps_of f.moves) (steps_of g.moves) f.of_links (subst (λ (n : ℕ). AreOfLinks n (steps_of g.moves)) f.count g.of_links));
  down = λ link h. g.down link (f.down link h);
  links = λ link r here.
      let later = g.links link r here in
      let before = f.links link later.0 later.1 in
      let xs = parts_of link a.controller f.moves in (
        before.0,
        before.1,
        subst (λ ps. Extends a c link ps before.0 r) (ap (λ d. xs ++ parts_of link d g.moves) f.controller ∙ sym (parts_both link a.controller f.moves g.moves))
            (on_both a b c link xs (parts_of link b.controller g.moves) before.0 later.0 r before.2 later.2),
      );
}

pub course_both : (last : List Item) (a b c : State) → Advances [] a b → Advances last b c → Advances last a c
course_both last a b c f g =
    course_on [] last last a b c f g
    (ap (λ is. is ++ (taken_of g.moves ++ last)) (append-nil (taken_of f.moves)) ∙ sym (append_assoc (taken_of f.moves) (taken_of g.moves) last))

-- where no step is done no item is taken
none_taken : (moves : List Move) → steps_of moves ≡ [] → taken_of moves ≡ []
none_taken [] none = refl
none_taken (takes item ∷ moves) none = let some : Take item ∷ steps_of moves ≡ [] = none in absurd cc
none_taken (ticks ms ∷ moves) none = let some : Tick ms ∷ steps_of moves ≡ [] = none in absurd cc
none_taken (adds link ∷ moves) none = let some : Take (down_of link) ∷ steps_of moves ≡ [] = none in absurd cc
none_taken (refuses link ∷ moves) none = none_taken moves none

-- an outbox that was given up remains so
given_up_later : (link : ℕ) (b c : State) → Advances [] b c → IsGivenUpAt b.putters link → IsGivenUpAt c.putters link
given_up_later link b c g (there, up) = (
  let n = g.count in omega arith,
  λ at q here same. let p = g.links at q here in p.2.given_up (up at p.0 p.1 same),
)

-- what it stopped at is a step of the same item, time or link
step_later : (last : List Item) (b c : State) (s : Step) →
    Advances [] b c →
    c.gathered ≡ b.gathered →
    IsStepOf last b.gathered b.putters s →
    IsStepOf last c.gathered c.putters s
step_later (item ∷ items) b c s g same which = which
step_later [] b c (Take item) g same (down, up) = (down, given_up_later item.source b c g up)
step_later [] b c (Tick ms) g same which = subst (λ (n : ℕ). IsTickOf n ms) (sym same) which

stops_later : (last : List Item) (b c : State) → Advances [] b c → c.gathered ≡ b.gathered → c.controller ≡ b.controller → StopsAt last b.gathered b.putters b.controller
    → StopsAt last c.gathered c.putters c.controller
stops_later last b c g same controller stops = record {
  step = stops.step;
  wants = subst (λ d. MayWantMemory stops.step d) (sym controller) stops.wants;
  which = step_later last b c stops.step g same stops.which;
}

-- no step was done in the second part
pub part_both_alone : (a b c : State) → AdvancesPartly a b → AdvancesAlone b c → AdvancesPartly a c
part_both_alone a b c (last, one, f, stops) (g, still, none_told) =
    let ts : List Item = taken_of f.moves in
    let none = none_taken g.moves still in (
      last,
      one,
      course_on last [] last a b c f g
          (ap (λ is. (ts ++ last) ++ (is ++ [])) none ∙ append-nil (ts ++ last) ∙ ap (λ is. is ++ last) (sym (append-nil ts) ∙ ap (λ is. ts ++ is) (sym none))),
      stops_later last b c g none_told (g.controller ∙ ap (λ ss. (over b.controller ss).next) still) stops,
    )

pub alone_both : (a b c : State) → AdvancesAlone a b → AdvancesAlone b c → AdvancesAlone a c
unfolding course_both course_on
alone_both a b c (f, none, same) (g, nothing, same_too) =
    (course_both [] a b c f g, steps_both f.moves g.moves ∙ ap (λ ss. ss ++ steps_of g.moves) none ∙ nothing, same_too ∙ same)

pub course_both_part : (a b c : State) → Advances [] a b → AdvancesPartly b c → AdvancesPartly a c
course_both_part a b c f g = (g.0, g.1, course_both g.0 a b c f g.2, g.3)

pub part_of_course : (a b : State) → Advances [] a b → StopsAt [] b.gathered b.putters b.controller → AdvancesPartly a b
part_of_course a b f stops = ([], omega arith, f, stops)

-- a step of no item that was taken
pub stops_alone : (s : Step) (b : State) →
    MayWantMemory s b.controller →
    IsStepOf [] b.gathered b.putters s →
    StopsAt [] b.gathered b.putters b.controller
stops_alone s b wants of_none = record {
  step = s;
  wants = wants;
  which = of_none;
}

-- nothing was put, and no move made
pub on_still : (old new : State) (link : ℕ) (p : PutterView) →
    new.ended ≡ old.ended →
    mark_at new.marks link ≡ mark_at old.marks link →
    Extends old new link [] p p
on_still old new link p ended mark = record {
  queue = refl;
  given_up = λ up. up;
  fits = λ past f.
      subst (λ (n : ℕ). Fits (nat_lt link n) p (mark_at new.marks link) link (past ++ [])) (sym ended)
      (subst (λ m. Fits (ended_of old link) p m link (past ++ [])) (sym mark) (subst (λ ps. Fits (ended_of old link) p (mark_at old.marks link) link ps) (sym (append-nil past)) f));
}

pub course_still : (last : List Item) (old new : State) → new.controller ≡ old.controller → new.putters ≡ old.putters → new.ended ≡ old.ended
    → ((link : ℕ) → mark_at new.marks link ≡ mark_at old.marks link) → HasTaken old.desk last new.desk → new.told + old.gathered ≡ old.told + new.gathered → Advances last old new
course_still last old new controller putters ended marks desk time = record {
  moves = [];
  controller = controller;
  desk = desk;
  time = omega arith;
  count = ap (λ ps. length ps) putters;
  of_links = tt;
  down = λ link h. ap (λ y. y.down) (marks link) ∙ h;
  links = λ link p here. (p, ap (λ ps. get_elem? ps link) (sym putters) ∙ here, on_still old new link p ended (marks link));
}

pub course_none : (s : State) → Advances [] s s
course_none s = course_still [] s s refl refl refl (λ link. refl) (taken_none s.desk) refl

pub alone_none : (s : State) → AdvancesAlone s s
unfolding course_none course_still
alone_none s = (course_none s, refl, refl)

-- ---- calls that may run out of memory

module _ {X E : Type 0} where
  pub by_both : (r : Result X E) (a b c : State) →
      Advances [] a b →
      MatchResult r (λ _. Advances [] b c) (λ _. AdvancesPartly b c) →
      MatchResult r (λ _. Advances [] a c) (λ _. AdvancesPartly a c)
  by_both (Ok x) a b c f g = course_both [] a b c f g
  by_both (Err e) a b c f g = course_both_part a b c f g

  pub by_err : (r : Result X E) (a b : State) →
      IsErr r →
      AdvancesPartly a b →
      MatchResult r (λ _. Advances [] a b) (λ _. AdvancesPartly a b)
  by_err (Ok x) a b is f = absurd (false≢true is)
  by_err (Err e) a b is f = f
