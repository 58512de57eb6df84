-- SPDX-License-Identifier: MIT OR Apache-2.0
-- Outputs of a step, added to the outboxes and to the waiting frames.
use Rattle.std.proofs.Common.{◌≡◌, ◌≢◌, ℕ, ◌+◌, ◌<◌, ◌≤◌, ◌==◌, true, false, List, [], ◌∷◌, ◌++◌, length, map, replicate, reverse, refl, sym, ap, ◌∙◌, subst, append_assoc, arith, set, ⊎_elim, get_or-set_same, get_or-set_other, zero, suc}
use Rattle.std.specs.List.{filter}
use Rattle.std.proofs.lemmas.Bool.{eq-eqb, ne_eqb, false≢true}
use Rattle.std.proofs.lemmas.List.{map-append, reverse-append}
use Rattle.std.proofs.lemmas.List.Elements.{filter-append}
use mathlib.Core.Option.{some, some-injective}
use lib.ListN.{get_elem?}
use Rattle.atomic_table.proofs.Lists.{at_set}
use Rattle.controller_worker.specs.declared.mark.Mark.{Mark}
use Rattle.controller_worker.specs.Advancing.{Sends, SendsAll, SendsSome, RemainOpen, mark_at, unmarked}
use Rattle.controller_worker.specs.Links.{is_given_up}
use Rattle.controller_worker.specs.Moves.{times}
use Rattle.controller_worker.specs.Steps.{frames_to}
use Rattle.controller_worker.proofs.Histories.{same_or, times_both, times_none, times_same}
use Rattle.controller_worker.proofs.Outboxes.{sends_both, sends_none}
use Rattle.conn_messages.specs.declared.out.Out.{Out}
use Rattle.ipa_framing.specs.declared.frame.Frame.{Frame}
use Rattle.ruled_relay.specs.Outbox.{PutterView}
use Rattle.ruled_relay.proofs.Places.{length_set, within}

-- ---- what is remembered of a link

pub elsewhere : (ms : List Mark) (at link : ℕ) (m : Mark) → link ≢ at → mark_at (set ms at m) link ≡ mark_at ms link
elsewhere ms at link m e = get_or-set_other ms at link m unmarked e

pub there_now : (ms : List Mark) (at link : ℕ) (m : Mark) → link ≡ at → at < length ms → mark_at (set ms at m) link ≡ m
there_now ms at link m e h = ap (λ i. mark_at (set ms at m) i) e ∙ get_or-set_same ms at m unmarked h

pub read_mark : (ms : List Mark) (at : ℕ) (m : Mark) → get_elem? ms at ≡ some m → mark_at ms at ≡ m
read_mark [] at m e = absurd (let h = within [] at m e in omega arith)
read_mark (x ∷ xs) zero m e = some-injective x m e
read_mark (x ∷ xs) (suc at) m e = read_mark xs at m e

-- ---- outputs

pub frames_both : (link : ℕ) (xs ys : List Out) → frames_to link (xs ++ ys) ≡ frames_to link xs ++ frames_to link ys
frames_both link xs ys =
    ap (λ os. map (λ (o : Out). o.frame) os) (filter-append (λ (o : Out). o.to == link) xs ys)
    ∙ map-append (λ (o : Out). o.frame) (filter (λ (o : Out). o.to == link) xs) (filter (λ (o : Out). o.to == link) ys)

frames_here : (link : ℕ) (out : Out) → (out.to == link) ≡ true → frames_to link (out ∷ []) ≡ out.frame ∷ []
frames_here link out e = rw e refl

frames_else : (link : ℕ) (out : Out) → (out.to == link) ≡ false → frames_to link (out ∷ []) ≡ []
frames_else link out e = rw e refl

pub all_none : (putters : List PutterView) (ms : List Mark) → SendsAll putters ms [] [] putters ms
all_none putters ms =
    record { count = refl; marks = refl; kept = λ link. refl; each = λ link p here. (p, here, sends_none p (mark_at ms link).waiting) }

pub all_both : (a : List PutterView) (x : List Mark) (b : List PutterView) (y : List Mark) (c : List PutterView) (z : List Mark) (xs ys : List Out) (ts us : List ℕ)
    → SendsAll a x xs ts b y → SendsAll b y ys us c z → SendsAll a x (xs ++ ys) (ts ++ us) c z
all_both a x b y c z xs ys ts us f g = record {
  count = g.count ∙ f.count;
  marks = g.marks ∙ f.marks;
  kept = λ link. g.kept link ∙ ap (λ (m : Mark). record m { waiting = (mark_at z link).waiting }) (f.kept link);
  each = λ link r here.
      let later = g.each link r here in
      let before = f.each link later.0 later.1 in
      let w : List Frame = (mark_at x link).waiting in
      let v : List Frame = (mark_at y link).waiting in
      let u : List Frame = (mark_at z link).waiting in (
        before.0,
        before.1,
        subst (λ (n : ℕ). Sends before.0 w (frames_to link (xs ++ ys)) n r u) (sym (times_both link ts us))
            (subst (λ (fs : List Frame). Sends before.0 w fs (times link ts + times link us) r u) (sym (frames_both link xs ys))
            (sends_both before.0 later.0 r w (frames_to link xs) v (frames_to link ys) u (times link ts) (times link us) before.2 later.2)),
      );
}

-- nobody gets what is put for no link
pub sent_past : (putters : List PutterView) (ms : List Mark) (out : Out) →
    length putters ≤ out.to →
    SendsAll putters ms (out ∷ []) [] putters ms
sent_past putters ms out past = record {
  count = refl;
  marks = refl;
  kept = λ link. refl;
  each = λ link p here.
      let h = within putters link p here in
      let w : List Frame = (mark_at ms link).waiting in
      (p, here, subst (λ (fs : List Frame). Sends p w fs 0 p w) (sym (frames_else link out (ne_eqb out.to link (λ e. absurd (omega arith))))) (sends_none p w));
}

-- what arrives for one link, or is tried there
sends_at : (putters : List PutterView) (ms : List Mark) (at : ℕ) (outs : List Out) (p q : PutterView) (v : List Frame) (n : ℕ) → at < length ms → get_elem? putters at ≡ some p
    → ((link : ℕ) → link ≢ at → frames_to link outs ≡ []) → Sends p (mark_at ms at).waiting (frames_to at outs) n q v
    → SendsAll putters ms outs (replicate n at) (set putters at q) (set ms at (record (mark_at ms at) { waiting = v }))
sends_at putters ms at outs p q v n room here else sends =
    let new : List Mark = set ms at (record (mark_at ms at) { waiting = v }) in
    let m : Mark = record (mark_at ms at) { waiting = v } in
    let tries : List ℕ = replicate n at in
    let is : mark_at new at ≡ m = there_now ms at at m refl room in
    let same : (link : ℕ) → link ≢ at → mark_at new link ≡ mark_at ms link = λ link e. elsewhere ms at link m e in
    let kept_here : mark_at new at ≡ record (mark_at ms at) { waiting = (mark_at new at).waiting } =
    is ∙ ap (λ (l : List Frame). let k : Mark = record (mark_at ms at) { waiting = l } in k) (sym (ap (λ y. y.waiting) is)) in
    let kept_else : (link : ℕ) → link ≢ at → mark_at new link ≡ record (mark_at ms link) { waiting = (mark_at new link).waiting } =
    λ link e. same link e ∙ ap (λ (l : List Frame). let k : Mark = record (mark_at ms link) { waiting = l } in k) (sym (ap (λ y. y.waiting) (same link e))) in
    record {
      count = length_set putters at q;
      marks = length_set ms at m;
      kept = λ link.
          ⊎_elim
          (λ (e : link ≡ at). subst (λ (i : ℕ). mark_at new i ≡ record (mark_at ms i) { waiting = (mark_at new i).waiting }) (sym e) kept_here)
          (λ (e : link ≢ at). kept_else link e) (same_or link at);
      each = λ link r there.
          ⊎_elim
          (λ (h : (link ≡ at) × (q ≡ r)).
          let sent : Sends p (mark_at ms at).waiting (frames_to at outs) (times at tries) r (mark_at new at).waiting =
          subst (λ (y : PutterView). Sends p (mark_at ms at).waiting (frames_to at outs) (times at tries) y (mark_at new at).waiting) h.1
          (subst (λ (l : List Frame). Sends p (mark_at ms at).waiting (frames_to at outs) (times at tries) q l) (sym (ap (λ y. y.waiting) is))
          (subst (λ (k : ℕ). Sends p (mark_at ms at).waiting (frames_to at outs) k q v) (sym (times_same at n)) sends)) in (
            p,
            subst (λ (i : ℕ). get_elem? putters i ≡ some p) (sym h.0) here,
            subst (λ (i : ℕ). Sends p (mark_at ms i).waiting (frames_to i outs) (times i tries) r (mark_at new i).waiting) (sym h.0) sent,
          ))
          (λ (h : (link ≢ at) × (get_elem? putters link ≡ some r)).
          let w : List Frame = (mark_at ms link).waiting in (
            r,
            h.1,
            subst (λ (l : List Frame). Sends r w (frames_to link outs) (times link tries) r l) (sym (ap (λ y. y.waiting) (same link h.0)))
                (subst (λ (k : ℕ). Sends r w (frames_to link outs) k r w) (sym (times_none link at n h.0))
                (subst (λ (fs : List Frame). Sends r w fs 0 r w) (sym (else link h.0)) (sends_none r w))),
          ))
          (at_set putters at link q r there);
    }

abbrev pub SomeAll : List PutterView → List Mark → List Out → List PutterView → List Mark → Type 0
SomeAll putters ms outs new after = (tries : List ℕ) × SendsAll putters ms outs tries new after

pub some_all_both : (a : List PutterView) (x : List Mark) (b : List PutterView) (y : List Mark) (c : List PutterView) (z : List Mark) (xs ys : List Out)
    → SomeAll a x xs b y → SomeAll b y ys c z → SomeAll a x (xs ++ ys) c z
some_all_both a x b y c z xs ys f g = (f.0 ++ g.0, all_both a x b y c z xs ys f.0 g.0 f.1 g.1)

pub sent_at : (putters : List PutterView) (ms : List Mark) (at : ℕ) (out : Out) (p q : PutterView) (m m' : Mark) → length ms ≡ length putters → at ≡ out.to → get_elem? putters at ≡ some p
    → get_elem? ms at ≡ some m → m' ≡ record m { waiting = m'.waiting } → SendsSome p m.waiting (out.frame ∷ []) q m'.waiting → SomeAll putters ms (out ∷ []) (set putters at q) (set ms at m')
sent_at putters ms at out p q m m' count is here mark kept sends =
    let room : at < length putters = within putters at p here in
    let w : mark_at ms at ≡ m = read_mark ms at m mark in
    let m'_is : m' ≡ record (mark_at ms at) { waiting = m'.waiting } = kept ∙ ap (λ (y : Mark). record y { waiting = m'.waiting }) (sym w) in
    let one : frames_to at (out ∷ []) ≡ out.frame ∷ [] = frames_here at out (eq-eqb out.to at (sym is)) in (
      replicate sends.0 at,
      subst (λ (y : Mark). SendsAll putters ms (out ∷ []) (replicate sends.0 at) (set putters at q) (set ms at y)) (sym m'_is)
          (sends_at putters ms at (out ∷ []) p q m'.waiting sends.0 (omega arith) here (λ link e. frames_else link out (ne_eqb out.to link (λ k. e (sym k ∙ sym is))))
          (subst (λ (fs : List Frame). Sends p (mark_at ms at).waiting fs sends.0 q m'.waiting) (sym one)
          (subst (λ (y : Mark). Sends p y.waiting (out.frame ∷ []) sends.0 q m'.waiting) (sym w) sends.1))),
    )

pub tried_at : (putters : List PutterView) (ms : List Mark) (at : ℕ) (p q : PutterView) (m m' : Mark) → length ms ≡ length putters → get_elem? putters at ≡ some p → get_elem? ms at ≡ some m
    → m' ≡ record m { waiting = m'.waiting } → SendsSome p m.waiting [] q m'.waiting → SomeAll putters ms [] (set putters at q) (set ms at m')
tried_at putters ms at p q m m' count here mark kept sends =
    let room : at < length putters = within putters at p here in
    let w : mark_at ms at ≡ m = read_mark ms at m mark in
    let m'_is : m' ≡ record (mark_at ms at) { waiting = m'.waiting } = kept ∙ ap (λ (y : Mark). record y { waiting = m'.waiting }) (sym w) in (
      replicate sends.0 at,
      subst (λ (y : Mark). SendsAll putters ms [] (replicate sends.0 at) (set putters at q) (set ms at y)) (sym m'_is)
          (sends_at putters ms at [] p q m'.waiting sends.0 (omega arith) here (λ link e. refl)
          (subst (λ (y : Mark). Sends p y.waiting [] sends.0 q m'.waiting) (sym w) sends.1)),
    )

-- ---- outboxes that were given up

pub open_none : (ps : List PutterView) → RemainOpen ps ps
open_none ps link p here up = (p, here, up)

pub open_both : (a b c : List PutterView) → RemainOpen a b → RemainOpen b c → RemainOpen a c
open_both a b c f g link r here up = let mid = g link r here up in f link mid.0 mid.1 mid.2

pub open_at : (ps : List PutterView) (at : ℕ) (q : PutterView) → is_given_up q ≡ false → RemainOpen ps (set ps at q)
open_at ps at q up link r here now =
    ⊎_elim (λ (h : (link ≡ at) × (q ≡ r)). absurd (false≢true (sym up ∙ ap (λ y. is_given_up y) h.1 ∙ now)))
    (λ (h : (link ≢ at) × (get_elem? ps link ≡ some r)). let same : (was : PutterView) × (get_elem? ps link ≡ some was) × (is_given_up was ≡ true) = (r, h.1, now) in same) (at_set ps at link q r here)

-- ---- one behind the other

-- one more of a list is done
pub next_done : (done : List Out) (out : Out) (left next all : List Out) →
    done ++ left ≡ all →
    left ≡ out ∷ next →
    (done ++ out ∷ []) ++ next ≡ all
next_done done out left next all so_far step = append_assoc done (out ∷ []) next ∙ ap (λ os. done ++ os) (sym step) ∙ so_far

-- the last of a list turned round is the first
pub first_of_reversed : (outs rest : List Out) (out : Out) → outs ≡ rest ++ out ∷ [] → reverse outs ≡ out ∷ reverse rest
first_of_reversed outs rest out is = ap (λ os. reverse os) is ∙ reverse-append rest (out ∷ [])
