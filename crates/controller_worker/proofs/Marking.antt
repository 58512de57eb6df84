-- SPDX-License-Identifier: MIT OR Apache-2.0
-- The end mark of each outbox.
use Rattle.std.proofs.Common.{◌≡◌, ◌≢◌, ℕ, ◌+◌, ◌<◌, nat_lt, nat_le, true, false, List, [], ◌∷◌, ◌++◌, refl, sym, ap, ◌∙◌, subst, append-nil, arith, set, ⊎_elim}
use Rattle.std.proofs.lemmas.Bool.{false≢true}
use Rattle.std.proofs.lemmas.Bool.Decides.{nat_tests}
use mathlib.Core.Option.{some}
use lib.ListN.{get_elem?}
use Rattle.atomic_table.proofs.Lists.{at_set}
use Rattle.controller_worker.specs.declared.mark.Mark.{Mark}
use Rattle.controller_worker.specs.declared.limits.TheConstants.{MAX_REFUSALS, TICK_MS}
use Rattle.controller_worker.specs.Advancing.{Ends, Finishes, Fits, Advances, AdvancesAlone, Extends, IsSettled, PutsEnd, State, mark_at}
use Rattle.controller_worker.specs.Links.{is_given_up, lines}
use Rattle.controller_worker.specs.Moves.{IsSent, Part, parts_of, taken_of}
use Rattle.controller_worker.specs.Taking.{HasTaken}
use Rattle.controller_worker.proofs.Courses.{on_both, on_still}
use Rattle.ruled_relay.specs.declared.item.Item.{Item}
use Rattle.ruled_relay.specs.declared.outbox.Line.TheVariants as marks
use Rattle.ruled_relay.specs.Outbox.{PutterView}
use Rattle.ruled_relay.proofs.Places.{length_set}

pub ends_none : (s : State) → Ends s s
ends_none s = record { kept = refl; count = refl; links = λ link p here. (p, here, on_still s s link p refl refl); settled = λ h. h }

pub ends_both : (a b c : State) → Ends a b → Ends b c → Ends a c
ends_both a b c f g = record {
  kept = g.kept ∙ ap (λ (s : State). record s { putters = c.putters; ended = c.ended }) f.kept;
  count = g.count ∙ f.count;
  links = λ link r here.
      let later = g.links link r here in
      let before = f.links link later.0 later.1 in (before.0, before.1, on_both a b c link [] [] before.0 later.0 r before.2 later.2);
  settled = λ h. g.settled (f.settled h);
}

on_ends : (a b c : State) (link : ℕ) (parts : List Part) (p q r : PutterView) →
    Extends a b link parts p q →
    Extends b c link [] q r →
    Extends a c link parts p r
on_ends a b c link parts p q r f g = subst (λ ps. Extends a c link ps p r) (append-nil parts) (on_both a b c link parts [] p q r f g)

pub course_ends : (last : List Item) (a b c : State) → Advances last a b → Ends b c → Advances last a c
course_ends last a b c f g = record {
  moves = f.moves;
  controller = ap (λ s. s.controller) g.kept ∙ f.controller;
  desk = subst (λ d. HasTaken a.desk (taken_of f.moves ++ last) d) (sym (ap (λ s. s.desk) g.kept)) f.desk;
  time = let t = ap (λ s. s.told) g.kept in let u = ap (λ s. s.gathered) g.kept in let v = f.time in omega arith;
  count = g.count ∙ f.count;
  of_links = f.of_links;
  down = λ link h. ap (λ s. (mark_at s.marks link).down) g.kept ∙ f.down link h;
  links = λ link r here.
      let later = g.links link r here in
      let before = f.links link later.0 later.1 in
      (before.0, before.1, on_ends a b c link (parts_of link a.controller f.moves) before.0 later.0 r before.2 later.2);
}

pub alone_ends : (a b c : State) → AdvancesAlone a b → Ends b c → AdvancesAlone a c
unfolding course_ends
alone_ends a b c f g = (course_ends [] a b c f.0 g, f.1, ap (λ s. s.gathered) g.kept ∙ f.2)

-- one outbox gets its mark
fits_marked : (p q : PutterView) (m : Mark) (link : ℕ) (past : List Part) →
    PutsEnd p true q →
    m.waiting ≡ [] →
    Fits false p m link past →
    Fits true q m link (past ++ [])
fits_marked p q m link past puts none f = subst (λ ps. Fits true q m link ps) (sym (append-nil past)) (record {
  sent = f.sent;
  put = puts.2 ∙ ap (λ ls. ls ++ marks.End ∷ []) (f.put ∙ append-nil (lines f.sent));
  which = subst (λ b. IsSent b m.added link past (f.sent ++ m.waiting)) (sym (ap (λ n. nat_le MAX_REFUSALS n) puts.1)) f.which;
  none = (λ h. none, λ h. none);
  counted = (let z = puts.3 in omega arith, let z = puts.1 in let c = f.counted.1 in omega arith);
  down = f.down;
})

pub ends_one : (old : State) (at : ℕ) (p q : PutterView) → at ≡ old.ended → get_elem? old.putters at ≡ some p → (mark_at old.marks at).waiting ≡ [] → PutsEnd p true q
    → Ends old (record old { putters = set old.putters at q; ended = at + 1 })
ends_one old at p q is here none puts =
    let new : State = record old { putters = set old.putters at q; ended = at + 1 } in record {
      kept = refl;
      count = length_set old.putters at q;
      links = λ link r there.
          ⊎_elim
          (λ (h : (link ≡ at) × (q ≡ r)).
          let was : nat_lt link old.ended ≡ false = let k = h.0 in grind (arith, nat_tests) in
          let now : nat_lt link (at + 1) ≡ true = let k = h.0 in grind (arith, nat_tests) in (
            p,
            subst (λ i. get_elem? old.putters i ≡ some p) (sym h.0) here,
            record {
              queue = ap (λ y. y.queue) (sym h.1) ∙ puts.0;
              given_up = λ up. sym (ap (λ y. is_given_up y) h.1) ∙ ap (λ n. nat_le MAX_REFUSALS n) puts.1 ∙ up;
              fits = λ past f.
                  subst (λ b. Fits b r (mark_at old.marks link) link (past ++ [])) (sym now)
                  (subst (λ y. Fits true y (mark_at old.marks link) link (past ++ [])) h.1
                  (fits_marked p q (mark_at old.marks link) link past puts (ap (λ i. (mark_at old.marks i).waiting) h.0 ∙ none) (subst (λ b. Fits b p (mark_at old.marks link) link past) was f)));
            },
          ))
          (λ (h : (link ≢ at) × (get_elem? old.putters link ≡ some r)).
          let same : nat_lt link (at + 1) ≡ nat_lt link old.ended = let k = h.0 in grind (arith, nat_tests) in (
            r,
            h.1,
            let still = on_still old old link r refl refl in record {
              queue = refl;
              given_up = λ up. up;
              fits = λ past f. subst (λ b. Fits b r (mark_at old.marks link) link (past ++ [])) (sym same) (still.fits past f);
            },
          ))
          (at_set old.putters at link q r there);
      settled = λ settled link r there up.
          ⊎_elim
          (λ (h : (link ≡ at) × (q ≡ r)).
          settled link p (subst (λ i. get_elem? old.putters i ≡ some p) (sym h.0) here)
          (sym (ap (λ n. nat_le MAX_REFUSALS n) puts.1) ∙ ap (λ y. is_given_up y) h.1 ∙ up))
          (λ (h : (link ≢ at) × (get_elem? old.putters link ≡ some r)). settled link r h.1 up) (at_set old.putters at link q r there);
    }

pub settled_by : (p : PutterView) → p.refusals ≡ 0 → is_given_up p ≡ true → ⊥
settled_by p none up = false≢true (sym (ap (λ n. nat_le MAX_REFUSALS n) none) ∙ up)

pub finishes_ends : (a b : State) → Finishes a → Ends a b → Finishes b
finishes_ends a b f e = record {
  settled = e.settled f.settled;
  down = λ link h. ap (λ s. (mark_at s.marks link).down) e.kept ∙ f.down link (let n = e.count in omega arith);
  gathered = let g = ap (λ s. s.gathered) e.kept in let h = f.gathered in omega arith;
}

pub finishes_on : (a b : State) → Finishes a → Advances [] a b → IsSettled b → b.gathered < TICK_MS → Finishes b
finishes_on a b f course settled gathered =
    record { settled = settled; down = λ link h. course.down link (f.down link (let n = course.count in omega arith)); gathered = gathered }
