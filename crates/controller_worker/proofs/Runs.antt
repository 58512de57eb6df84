-- SPDX-License-Identifier: MIT OR Apache-2.0
-- From the advances of the call worker to its whole run.
use Rattle.std.proofs.Common.{◌≡◌, ℕ, ◌<◌, ◌≤◌, nat_lt, nat_le, Bool, true, false, List, [], ◌++◌, length, replicate, Option, Some, None, refl, sym, ap, ◌∙◌, subst, append-nil, arith, zero, suc}
use Rattle.std.proofs.lemmas.Bool.{false≢true}
use Rattle.std.proofs.lemmas.Bool.Decides.{nat_tests}
use mathlib.Core.Option.{some}
use lib.ListN.{get_elem?}
use Rattle.controller_worker.specs.declared.mark.Mark.{Mark}
use Rattle.controller_worker.specs.Call.{AreNew, IsNew, Parts, Runs, Serves}
use Rattle.controller_worker.specs.Stopping.{StopsAt}
use Rattle.controller_worker.specs.Advancing.{Finishes, Fits, Advances, AdvancesAlone, Extends, AdvancesPartly, IsSettled, State, ended_of, mark_at, unmarked}
use Rattle.controller_worker.specs.Links.{HasDown, is_given_up}
use Rattle.controller_worker.specs.Moves.{IsSent, Move, Part, parts_of, taken_of}
use Rattle.controller_worker.specs.Steps.{whats_of}
use Rattle.controller_worker.proofs.Courses.{part_both_alone}
use Rattle.controller_worker.proofs.Histories.{moves_of_parts}
use Rattle.controller_worker.proofs.Marking.{settled_by}
use Rattle.ipa_framing.specs.declared.frame.Frame.{Frame}
use Rattle.link_workers.specs.declared.fault.IoFault.{IoFault}
use Rattle.ruled_relay.specs.declared.item.Item.{Item}
use Rattle.ruled_relay.specs.Outbox.{PutterView}
use Rattle.ruled_relay.proofs.Places.{within}

abbrev pub parts_given : State → Parts
parts_given s = record { controller = s.controller; desk = s.desk; putters = s.putters; told = s.told }

-- ---- the beginning

mark_of_new : (n link : ℕ) → mark_at (replicate n unmarked) link ≡ unmarked
mark_of_new zero link = refl
mark_of_new (suc n) zero = refl
mark_of_new (suc n) (suc link) = mark_of_new n link

pub settled_new : (s : State) → AreNew s.putters → IsSettled s
settled_new s new link p here up = absurd (settled_by p (new link p here).2 up)

fits_new : (link : ℕ) (p : PutterView) → IsNew p → Fits false p unmarked link []
fits_new link p new = record {
  sent = [];
  put = new.0;
  which = subst (λ b. IsSent b false link [] []) (sym (ap (λ n. nat_le 1000 n) new.2)) (refl, tt);
  none = (λ h. refl, λ h. refl);
  counted = (let z = new.1 in omega arith, let z = new.2 in omega arith);
  down = λ h. absurd (false≢true h);
}

-- ---- the end

same_bool : (a b : Bool) → (a ≡ true → b ≡ true) → (b ≡ true → a ≡ true) → a ≡ b
same_bool true b f g = sym (f refl)
same_bool false true f g = g refl
same_bool false false f g = refl

-- a Down was added only where the outbox was given up
up_where_added : (given_up added : Bool) (link : ℕ) (parts : List Part) (sent : List Frame) →
    IsSent given_up added link parts sent →
    added ≡ true →
    given_up ≡ true
up_where_added true added link parts sent f h = refl
up_where_added false true link parts sent f h = absurd f
up_where_added false false link parts sent f h = absurd (false≢true h)

serves : (fault : Option IoFault) (old new : State) (link : ℕ) (moves : List Move) (p q : PutterView)
    → IsNew p → mark_at old.marks link ≡ unmarked → old.ended ≡ 0 → get_elem? new.putters link ≡ some q → new.ended ≡ length new.putters
    → (fault ≡ None → Finishes new) → Extends old new link (parts_of link old.controller moves) p q
    → Serves fault old.controller moves link p q
serves fault old new link moves p q is_new none unended here ended finishes course =
    let parts : List Part = parts_of link old.controller moves in
    let room : link < length new.putters = within new.putters link q here in
    let no : nat_lt link 0 ≡ false = grind (arith, nat_tests) in
    let before : Fits (ended_of old link) p (mark_at old.marks link) link [] =
    subst (λ (n : ℕ). Fits (nat_lt link n) p (mark_at old.marks link) link []) (sym unended)
    (subst (λ m. Fits (nat_lt link 0) p m link []) (sym none) (subst (λ b. Fits b p unmarked link []) (sym no) (fits_new link p is_new))) in
    let f = course.fits [] before in
    let m : Mark = mark_at new.marks link in
    let all : ended_of new link ≡ true = grind (arith, nat_tests) in
    let c = subst (λ b. Fits b q m link parts) all f in
    let which : IsSent (is_given_up q) m.added link parts c.sent =
    subst (λ fs. IsSent (is_given_up q) m.added link parts fs) (ap (λ fs. c.sent ++ fs) (c.none.0 refl) ∙ append-nil c.sent) c.which in record {
      queue = course.queue;
      sent = c.sent;
      put = c.put;
      added = m.added;
      which = which;
      whole = λ no. same_bool m.added (is_given_up q) (up_where_added (is_given_up q) m.added link parts c.sent which) ((finishes no).settled link q here);
      down = λ no. subst (λ ms. HasDown (whats_of link (taken_of ms))) (moves_of_parts link old.controller moves) (c.down ((finishes no).down link room));
    }

pub runs : (fault : Option IoFault) (last : List Item) (old new : State) (n : ℕ) → AreNew old.putters → old.marks ≡ replicate n unmarked → old.ended ≡ 0 → old.gathered ≡ 0 → Advances last old new
    → new.ended ≡ length new.putters → length last ≤ 1 → (fault ≡ None → last ≡ []) → ((fault ≡ None → ⊥) → StopsAt last new.gathered new.putters new.controller) → (fault ≡ None → Finishes new)
    → Runs fault (parts_given old) (parts_given new)
runs fault last old new n fresh none unended start course ended one no_last stops finishes = record {
  moves = course.moves;
  controller = course.controller;
  last = last;
  desk = course.desk;
  one = one;
  none = no_last;
  gathered = new.gathered;
  told = let t = course.time in omega arith;
  stops = stops;
  tick = λ no. (finishes no).gathered;
  count = course.count;
  of_links = course.of_links;
  links = λ link q here.
      let p = course.links link q here in (
        p.0,
        p.1,
        serves fault old new link course.moves p.0 q (fresh link p.0 p.1) (ap (λ ms. mark_at ms link) none ∙ mark_of_new n link) unended here ended finishes p.2,
      );
}

pub runs_whole : (old new : State) (n : ℕ) → AreNew old.putters → old.marks ≡ replicate n unmarked → old.ended ≡ 0 → old.gathered ≡ 0 → Advances [] old new → Finishes new → new.ended ≡ length new.putters
    → Runs None (parts_given old) (parts_given new)
runs_whole old new n fresh none unended start course finishes ended =
    runs None [] old new n fresh none unended start course ended (omega arith) (λ no. refl) (λ some. absurd (some refl)) (λ no. finishes)

no_fault : (fault : IoFault) → Some fault ≡ None → ⊥
no_fault fault e = cc

pub runs_part : (fault : IoFault) (old mid new : State) (n : ℕ) → AreNew old.putters → old.marks ≡ replicate n unmarked → old.ended ≡ 0 → old.gathered ≡ 0 → AdvancesPartly old mid → AdvancesAlone mid new
    → new.ended ≡ length new.putters → Runs (Some fault) (parts_given old) (parts_given new)
runs_part fault old mid new n fresh none unended start course ends ended =
    let p = part_both_alone old mid new course ends in
    runs (Some fault) p.0 old new n fresh none unended start p.2 ended p.1 (λ no. absurd (no_fault fault no)) (λ some. p.3) (λ no. absurd (no_fault fault no))
