-- SPDX-License-Identifier: MIT OR Apache-2.0
-- A line that is cut where a link broke.
use Rattle.world_laws.proofs.Prelude.{◌≡◌, ℕ, ◌≤◌, Bool, true, false, ◌||◌, ◌&&◌, not, if◌then◌else◌, List, [], ◌∷◌, ◌++◌, length, refl}
use Rattle.world_laws.proofs.Prelude.{sym, ap, ◌∙◌, subst, append_assoc, length-append, arith, append-nil, State, DataLinkState}
use Rattle.world_laws.proofs.Prelude.{true≢false, false≢true, Alive, FirstRelays, Condition, Follows, some_lost, remains, sound}
use Rattle.world_laws.proofs.Prelude.{left_the_cell, lost_old, lost_serving, lost_target, flow, messages_in, part_of, parts_of, controls_of}
use Rattle.world_laws.proofs.Prelude.{controls_in, texts_in, on_serving, on_target, moving, gone, is_gone, is_confirmed, is_intact}
use Rattle.world_laws.proofs.Prelude.{assembled}
use Rattle.world_laws.specs.LineUp.Places.{LineTenure, Seat}
use Rattle.world_laws.proofs.LineUp.Following.{follows_line, follows_front}
use Rattle.world_laws.proofs.LineUp.Lines.{flow-append, controls_append}
use Rattle.world_laws.proofs.LineUp.Phases.{phase_fewer}
use Rattle.world_laws.specs.LineUps.{has_arrived}

-- ---- tenures

-- The same on the line; or a part of it was lost, and nothing follows it.
pub data Cuts (t u : LineTenure) : Type 0 where
  whole : u.hold ≡ t.hold →
      flow (messages_in u.items) ≡ flow (messages_in t.items) →
      controls_in u.items ≤ controls_in t.items →
      u.is_lost ≡ t.is_lost →
      Cuts t u
  breaks : (dropped : List (List ℕ)) → u.hold ≡ t.hold → messages_in t.items ≡ messages_in u.items ++ dropped → u.is_lost ≡ true → Cuts t u

abbrev pub AllCut : List LineTenure → List LineTenure → Type 0
AllCut [] [] = Unit {0}
AllCut (t ∷ ts) (u ∷ us) = Cuts t u × AllCut ts us
AllCut _ _ = ⊥

pub cuts_itself : (t : LineTenure) → Cuts t t
cuts_itself t = whole refl refl (omega arith) refl

cuts_hold : {t u : LineTenure} → Cuts t u → u.hold ≡ t.hold
cuts_hold (whole hold messages controls lost) = hold
cuts_hold (breaks dropped hold messages lost) = hold

-- counts of a list and of its front
front_controls : (xs ys : List (List ℕ)) → controls_of xs ≤ controls_of (xs ++ ys)
front_controls xs ys = let both = controls_append xs ys in omega arith

pub cuts_controls : {t u : LineTenure} → Cuts t u → controls_in u.items ≤ controls_in t.items
cuts_controls (whole hold messages controls lost) = controls
cuts_controls {t} {u} (breaks dropped hold messages lost) = subst (λ (ms : List (List ℕ)). controls_of (messages_in u.items) ≤ controls_of ms) (sym messages) (front_controls (messages_in u.items) dropped)

pub cuts_texts : {t u : LineTenure} → Cuts t u → texts_in u.items ≤ texts_in t.items
cuts_texts (whole hold messages controls lost) = let same = ap length messages in omega arith
cuts_texts {t} {u} (breaks dropped hold messages lost) =
    let all = ap (λ (ms : List (List ℕ)). length (flow ms)) messages ∙ ap length (flow-append (messages_in u.items) dropped) ∙ length-append (flow (messages_in u.items)) (flow dropped) in
    omega arith

-- ---- lines

pub record CutLine (ts us : List LineTenure) : Type 0 where
  pub more : List (List ℕ)
  pub parts : parts_of ts ≡ parts_of us ++ more
  -- where nothing of it is missing, nothing was lost
  pub none : some_lost us ≡ false → (more ≡ []) × (some_lost ts ≡ false)

part_whole : (t u : LineTenure) → u.hold ≡ t.hold → flow (messages_in u.items) ≡ flow (messages_in t.items) → part_of t ≡ part_of u
part_whole t u hold messages = ap (λ (h : List (List ℕ)). flow h ++ flow (messages_in t.items)) (sym hold) ∙ ap (λ (ms : List (List ℕ)). flow u.hold ++ ms) (sym messages)

pub cut_line : (ts us : List LineTenure) → AllCut ts us → CutLine ts us
cut_line [] [] all = record { more = []; parts = refl; none = λ is. (refl, refl) }
cut_line [] (u ∷ us) all = elim all [ ]
cut_line (t ∷ ts) [] all = elim all [ ]
cut_line (t ∷ ts) (u ∷ us) all = by_cut all.0 (cut_line ts us all.1) where
  by_cut : Cuts t u → CutLine ts us → CutLine (t ∷ ts) (u ∷ us)
  by_cut (breaks dropped hold messages lost) rest = record {
    more = flow dropped ++ (if t.is_lost then [] else parts_of ts);
    parts = ap (λ (h : List (List ℕ)). (flow h ++ flow (messages_in t.items)) ++ (if t.is_lost then [] else parts_of ts)) (sym hold)
        ∙ ap (λ (ms : List (List ℕ)). (flow u.hold ++ ms) ++ (if t.is_lost then [] else parts_of ts)) (ap flow messages ∙ flow-append (messages_in u.items) dropped)
        ∙ ap (λ (xs : List (List ℕ)). xs ++ (if t.is_lost then [] else parts_of ts)) (sym (append_assoc (flow u.hold) (flow (messages_in u.items)) (flow dropped)))
        ∙ append_assoc (part_of u) (flow dropped) (if t.is_lost then [] else parts_of ts)
        ∙ ap (λ (xs : List (List ℕ)). xs ++ (flow dropped ++ (if t.is_lost then [] else parts_of ts))) (sym (append-nil (part_of u)) ∙ ap (λ (b : Bool). part_of u ++ (if b then [] else parts_of us)) (sym lost));
    none = λ is. absurd (true≢false (sym (ap (λ (b : Bool). b || some_lost us) lost) ∙ is));
  }
  by_cut (whole hold messages controls lost) rest = by_lost t.is_lost refl where
    same : part_of t ≡ part_of u
    same = part_whole t u hold messages

    by_lost : (b : Bool) → t.is_lost ≡ b → CutLine (t ∷ ts) (u ∷ us)
    by_lost true is = record {
      more = [];
      parts = ap (λ (x : Bool). part_of t ++ (if x then [] else parts_of ts)) is ∙ ap (λ (xs : List (List ℕ)). xs ++ []) same ∙ ap (λ (x : Bool). part_of u ++ (if x then [] else parts_of us)) (sym (lost ∙ is)) ∙ sym (append-nil (part_of u ++ (if u.is_lost then [] else parts_of us)));
      none = λ none. absurd (true≢false (sym (ap (λ (x : Bool). x || some_lost us) (lost ∙ is)) ∙ none));
    }
    by_lost false is = record {
      more = rest.more;
      parts = ap (λ (x : Bool). part_of t ++ (if x then [] else parts_of ts)) is ∙ ap (λ (xs : List (List ℕ)). xs ++ parts_of ts) same ∙ ap (λ (xs : List (List ℕ)). part_of u ++ xs) rest.parts ∙ sym (append_assoc (part_of u) (parts_of us) rest.more)
          ∙ ap (λ (x : Bool). (part_of u ++ (if x then [] else parts_of us)) ++ rest.more) (sym (lost ∙ is));
      none = λ none.
          let behind = rest.none (sym (ap (λ (x : Bool). x || some_lost us) (lost ∙ is)) ∙ none) in
          (behind.0, ap (λ (x : Bool). x || some_lost ts) is ∙ behind.1);
    }

pub behind_cut : (ts us xs ys : List LineTenure) → AllCut ts us → AllCut xs ys → AllCut (ts ++ xs) (us ++ ys)
behind_cut [] [] xs ys all more = more
behind_cut (t ∷ ts) (u ∷ us) xs ys all more = (all.0, behind_cut ts us xs ys all.1 more)
behind_cut [] (u ∷ us) xs ys all more = elim all [ ]
behind_cut (t ∷ ts) [] xs ys all more = elim all [ ]

first_cut : (confirmed : Bool) (ts us : List LineTenure) (hold hold2 : List (List ℕ)) →
    AllCut ts us →
    hold2 ≡ hold →
    FirstRelays confirmed ts hold →
    FirstRelays confirmed us hold2
first_cut confirmed [] [] hold hold2 all same first = λ is. same ∙ first is
first_cut confirmed (t ∷ ts) (u ∷ us) hold hold2 all same first = cuts_hold all.0 ∙ first
first_cut confirmed [] (u ∷ us) hold hold2 all same first = elim all [ ]
first_cut confirmed (t ∷ ts) [] hold hold2 all same first = elim all [ ]

-- ---- conditions

-- by what is lost
pub condition_of : (seat : Seat) (old serving target : Bool) →
    (target ≡ true → has_arrived seat ≡ true) →
    Condition seat old serving target (not (is_gone seat) && not old && not serving && not target)
condition_of gone old serving target there = left_the_cell
condition_of on_serving false true target there = lost_serving
condition_of on_serving false false true there = absurd (false≢true (there refl))
condition_of on_serving false false false there = sound
condition_of on_target false true target there = lost_serving
condition_of on_target false false true there = lost_target remains
condition_of on_target false false false there = sound
condition_of moving false true target there = lost_serving
condition_of moving false false true there = absurd (false≢true (there refl))
condition_of moving false false false there = sound
condition_of _ _ serving target there = lost_old

-- of the whole line
some_behind : (ts us : List LineTenure) → some_lost (ts ++ us) ≡ (some_lost ts || some_lost us)
some_behind [] us = refl
some_behind (t ∷ ts) us = by_lost t.is_lost (some_behind ts us) where
  by_lost : (b : Bool) →
      some_lost (ts ++ us) ≡ (some_lost ts || some_lost us) →
      (b || some_lost (ts ++ us)) ≡ ((b || some_lost ts) || some_lost us)
  by_lost true is = refl
  by_lost false is = is

intact_line : (seat : Seat) (old : List LineTenure) (serving target : LineTenure) →
    is_intact seat old serving target ≡ (not (is_gone seat) && not (some_lost (old ++ serving ∷ target ∷ [])))
intact_line seat old serving target = by_all (not (is_gone seat)) (some_lost old) serving.is_lost target.is_lost ∙ ap (λ (b : Bool). not (is_gone seat) && not b) (sym (some_behind old (serving ∷ target ∷ []))) where
  by_all : (g a b c : Bool) → (g && not a && not b && not c) ≡ (g && not (a || (b || (c || false))))
  by_all true false false true = refl
  by_all _ _ _ _ = refl

-- ---- the line-up

pub alive_cut : {m : ℕ} (sent : List (List ℕ)) (link : DataLinkState) (seat : Seat) (state : State) (commands commands2 : ℕ) (old old2 : List LineTenure) (serving serving2 target target2 : LineTenure) (out taken : List (List ℕ)) → commands2 ≤ commands → AllCut old old2 → Cuts serving serving2 → Cuts target target2
    → (target2.is_lost ≡ true → has_arrived seat ≡ true) → Alive m (assembled sent link seat state commands old serving target out taken) → Alive m (assembled sent link seat state commands2 old2 serving2 target2 out taken)
alive_cut {m} sent link seat state commands commands2 old old2 serving serving2 target target2 out taken fewer all cut_serving cut_target there alive = record {
  follows = by_intact (is_intact seat old2 serving2 target2) refl;
  first = first_cut (is_confirmed state) old old2 serving.hold serving2.hold all (cuts_hold cut_serving) alive.first;
  phase = phase_fewer fewer (cuts_controls cut_serving) (cuts_texts cut_target) (cuts_controls cut_target) (omega arith) alive.phase;
  condition = condition_of seat (some_lost old2) serving2.is_lost target2.is_lost there;
  bare = cuts_hold cut_target ∙ alive.bare;
} where
  whole_line : CutLine (old ++ serving ∷ target ∷ []) (old2 ++ serving2 ∷ target2 ∷ [])
  whole_line = cut_line (old ++ serving ∷ target ∷ []) (old2 ++ serving2 ∷ target2 ∷ []) (behind_cut old old2 (serving ∷ target ∷ []) (serving2 ∷ target2 ∷ []) all (cut_serving, (cut_target, tt)))

  front : List (List ℕ)
  front = flow taken ++ flow out

  now : List (List ℕ)
  now = front ++ parts_of (old2 ++ serving2 ∷ target2 ∷ [])

  was : front ++ parts_of (old ++ serving ∷ target ∷ []) ≡ now ++ whole_line.more
  was = ap (λ (xs : List (List ℕ)). front ++ xs) whole_line.parts ∙ sym (append_assoc front (parts_of (old2 ++ serving2 ∷ target2 ∷ [])) whole_line.more)

  right : (a b : Bool) → a && b ≡ true → (a ≡ true) × (b ≡ true)
  right true true is = (refl, refl)
  right true false is = absurd cc
  right false b is = absurd cc

  not_is : (b : Bool) → not b ≡ true → b ≡ false
  not_is false is = refl
  not_is true is = absurd cc

  by_intact : (b : Bool) → is_intact seat old2 serving2 target2 ≡ b → Follows m sent now link b
  by_intact false is = follows_front now whole_line.more was alive.follows
  by_intact true is =
      let both = right (not (is_gone seat)) (not (some_lost (old2 ++ serving2 ∷ target2 ∷ []))) (sym (intact_line seat old2 serving2 target2) ∙ is) in
      let none = whole_line.none (not_is (some_lost (old2 ++ serving2 ∷ target2 ∷ [])) both.1) in
      let intact : is_intact seat old serving target ≡ true = intact_line seat old serving target ∙ ap (λ (b : Bool). not (is_gone seat) && not b) none.1 ∙ ap (λ (b : Bool). b && true) both.0 in
      subst (Follows m sent now link) intact (follows_line (was ∙ ap (λ (xs : List (List ℕ)). now ++ xs) none.0 ∙ append-nil now) alive.follows)
