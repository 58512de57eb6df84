-- SPDX-License-Identifier: MIT OR Apache-2.0
-- The messages that may still arrive on the channels of a connection, with one more first on a
-- channel.
use Rattle.conn_rules.proofs.Prelude.{◌≡◌, ℕ, zero, suc, ◌==◌, ◌&&◌, Bool, true, false, not, if◌then◌else◌, List, [], ◌∷◌, ◌++◌, Option}
use Rattle.conn_rules.proofs.Prelude.{Some, None, refl, sym, ap, ◌∙◌, subst, inl, inr, cases_Bool, cond-true, cond-false, AllByRecursion}
use Rattle.conn_rules.proofs.Prelude.{Channel, Place, Sapi, TenureHold, tenure_messages, option_map, eqb-true, eq-eqb, and_parts}
use Rattle.conn_rules.proofs.Prelude.{false_from_ne_true, Drain, is_at, drain_at, Future, on_channel, still_of, first_at, undone, IsApart}
use Rattle.conn_rules.proofs.Prelude.{AreApart}
use Rattle.std.proofs.lemmas.Bool.{true≢false}

-- ---- a place and a channel

abbrev pub place_of : Channel → Place
place_of c = record { station = c.station; number = c.number }

pub same_place : (at : Place) (c : Channel) → is_at at c ≡ true → at ≡ place_of c
same_place at c here =
    let parts = and_parts (at.station == c.station) (at.number == c.number) here in
    let station : at.station ≡ c.station = eqb-true _ _ parts.0 in
    let number : at.number ≡ c.number = eqb-true _ _ parts.1 in
    ap (λ (n : ℕ). record at { station = n }) station ∙ ap (λ (n : ℕ). record (place_of c) { number = n }) number

-- a test of two numbers, turned round
equal_turned : (a b : ℕ) → (a == b) ≡ (b == a)
equal_turned a b =
    elim (cases_Bool (a == b)) [
      | inl same ↦ same ∙ sym (eq-eqb b a (sym (eqb-true a b same)))
      | inr other ↦ other ∙ sym (false_from_ne_true (b == a) (λ same. true≢false (sym (eq-eqb a b (sym (eqb-true b a same))) ∙ other)))
    ]

both_turned : (a b x y : ℕ) → ((a == b) && (x == y)) ≡ ((b == a) && (y == x))
both_turned a b x y = ap (λ (t : Bool). t && (x == y)) (equal_turned a b) ∙ ap (λ (t : Bool). (b == a) && t) (equal_turned x y)

pub away_of : (at : Place) (c d : Channel) → IsApart c d → is_at at c ≡ true → is_at at d ≡ false
away_of at c d apart here = subst (λ (p : Place). is_at p d ≡ false) (sym (same_place at c here)) apart

pub away_of_other : (at : Place) (c d : Channel) → IsApart c d → is_at at d ≡ true → is_at at c ≡ false
away_of_other at c d apart here = away_of at d c (both_turned d.station c.station d.number c.number ∙ apart) here

pub first_here : (at : Place) (c : Channel) (message : List ℕ) (future : Future) →
    is_at at c ≡ true →
    on_channel (first_at at message future) c ≡ message ∷ on_channel future c
first_here at c message future here = cond-true _ _ _ (both_turned c.station at.station c.number at.number ∙ here)

pub first_away : (at : Place) (c : Channel) (message : List ℕ) (future : Future) →
    is_at at c ≡ false →
    on_channel (first_at at message future) c ≡ on_channel future c
first_away at c message future away = cond-false _ _ _ (both_turned c.station at.station c.number at.number ∙ away)

-- ---- lists of channels

abbrev pub AreAway : Place → List Channel → Type 0
AreAway at cs = AllByRecursion (λ c. is_at at c ≡ false) cs

pub all_away : (at : Place) (c : Channel) (cs : List Channel) → is_at at c ≡ true → AllByRecursion (IsApart c) cs → AreAway at cs
all_away at c [] here apart = tt
all_away at c (d ∷ ds) here apart = (away_of at c d apart.0 here, all_away at c ds here apart.1)

pub all_behind : (P : Channel → Type 0) (xs ys : List Channel) → AllByRecursion P (xs ++ ys) → AllByRecursion P ys
all_behind P [] ys all = all
all_behind P (x ∷ xs) ys all = all_behind P xs ys all.1

pub apart_behind : (xs ys : List Channel) → AreApart (xs ++ ys) → AreApart ys
apart_behind [] ys apart = apart
apart_behind (x ∷ xs) ys apart = apart_behind xs ys apart.1

-- of the old channels that aren't done, the others, and the first
pub apart_rest : (done : Bool) (c : Channel) (cs rest : List Channel) →
    AreApart ((if done then cs else c ∷ cs) ++ rest) →
    AreApart (cs ++ rest)
apart_rest true c cs rest apart = apart
apart_rest false c cs rest apart = apart.1

pub apart_first : (done : Bool) (c : Channel) (cs rest : List Channel) →
    done ≡ false →
    AreApart ((if done then cs else c ∷ cs) ++ rest) →
    AllByRecursion (IsApart c) (cs ++ rest)
apart_first true c cs rest undone apart = absurd (true≢false undone)
apart_first false c cs rest undone apart = apart.0

-- the same of what holds of each
all_rest : (P : Channel → Type 0) (done : Bool) (c : Channel) (cs rest : List Channel) →
    AllByRecursion P ((if done then cs else c ∷ cs) ++ rest) →
    AllByRecursion P (cs ++ rest)
all_rest P true c cs rest all = all
all_rest P false c cs rest all = all.1

all_first : (P : Channel → Type 0) (done : Bool) (c : Channel) (cs rest : List Channel) →
    AllByRecursion P ((if done then cs else c ∷ cs) ++ rest) →
    done ≡ false →
    P c
all_first P true c cs rest all undone = absurd (true≢false undone)
all_first P false c cs rest all undone = all.0

-- ---- the place of an old channel

abbrev pub DrainsAt : Place → ℕ → List Drain → Type 0
DrainsAt at place [] = ⊥
DrainsAt at zero (d ∷ ds) = (is_at at d.channel ≡ true) × (d.is_done ≡ false)
DrainsAt at (suc place) (d ∷ ds) = DrainsAt at place ds

behind : (o : Option ℕ) (place : ℕ) → option_map (λ n. suc n) o ≡ Some place → (n : ℕ) × (o ≡ Some n) × (place ≡ suc n)
behind None place is = absurd cc
behind (Some n) place is = let later : Some (suc n) ≡ Some place = is in (n, refl, cc)

pub not_true_from : (b : Bool) → not b ≡ true → b ≡ false
not_true_from true is = sym is
not_true_from false is = refl

pub drain_at_drains : (at : Place) (ds : List Drain) (place : ℕ) → drain_at at ds ≡ Some place → DrainsAt at place ds
drain_at_drains at [] place is = absurd cc
drain_at_drains at (d ∷ ds) place is =
    elim (cases_Bool (is_at at d.channel && not d.is_done)) [
      | inl here ↦
          let parts = and_parts (is_at at d.channel) (not d.is_done) here in
          let same : Some 0 ≡ Some place = sym (cond-true _ _ _ here) ∙ is in
          let first : 0 ≡ place = cc in
          subst (λ (n : ℕ). DrainsAt at n (d ∷ ds)) first (parts.0, not_true_from d.is_done parts.1)
      | inr other ↦
          let later = behind (drain_at at ds) place (sym (cond-false _ _ _ other) ∙ is) in
          subst (λ (n : ℕ). DrainsAt at n (d ∷ ds)) (sym later.2) (drain_at_drains at ds later.0 later.1)
    ]

-- what is apart from an old channel isn't at its place, and neither are the channels behind that
-- one
pub drain_away : (at : Place) (c : Channel) (place : ℕ) (ds : List Drain) (rest : List Channel) →
    DrainsAt at place ds →
    AllByRecursion (IsApart c) (undone ds ++ rest) →
    is_at at c ≡ false
drain_away at c place [] rest drains apart = absurd drains
drain_away at c zero (d ∷ ds) rest drains apart =
    away_of_other at c d.channel (all_first (IsApart c) d.is_done d.channel (undone ds) rest apart drains.1) drains.0
drain_away at c (suc place) (d ∷ ds) rest drains apart = drain_away at c place ds rest drains (all_rest (IsApart c) d.is_done d.channel (undone ds) rest apart)

pub drain_behind_away : (at : Place) (place : ℕ) (ds : List Drain) (rest : List Channel) →
    DrainsAt at place ds →
    AreApart (undone ds ++ rest) →
    AreAway at rest
drain_behind_away at place [] rest drains apart = absurd drains
drain_behind_away at zero (d ∷ ds) rest drains apart =
    all_away at d.channel rest drains.0 (all_behind (IsApart d.channel) (undone ds) rest (apart_first d.is_done d.channel (undone ds) rest drains.1 apart))
drain_behind_away at (suc place) (d ∷ ds) rest drains apart = drain_behind_away at place ds rest drains (apart_rest d.is_done d.channel (undone ds) rest apart)

-- ---- what may still arrive, where a message is first

-- on an old channel
pub of_drain_away : (at : Place) (message : List ℕ) (future : Future) (done : Bool) (c : Channel) →
    (done ≡ false → is_at at c ≡ false) →
    (if done then [] else on_channel (first_at at message future) c) ≡ (if done then [] else on_channel future c)
of_drain_away at message future true c away = refl
of_drain_away at message future false c away = first_away at c message future (away refl)

pub still_of-away : (sapi : Sapi) (at : Place) (message : List ℕ) (future : Future) (serving : Channel) (ds : List Drain) (ts : List TenureHold) (rest : List Channel) →
    AreAway at (undone ds ++ serving ∷ rest) →
    still_of sapi (first_at at message future) serving ds ts ≡ still_of sapi future serving ds ts
still_of-away sapi at message future serving ds [] rest away = refl
still_of-away sapi at message future serving [] (t ∷ ts) rest away = ap (λ (xs : List (List ℕ)). tenure_messages t sapi ++ xs) (first_away at serving message future away.0)
still_of-away sapi at message future serving (d ∷ ds) (t ∷ ts) rest away =
    let is_away = λ (c : Channel). is_at at c ≡ false in
    let first = of_drain_away at message future d.is_done d.channel (all_first is_away d.is_done d.channel (undone ds) (serving ∷ rest) away) in
    let others = still_of-away sapi at message future serving ds ts rest (all_rest is_away d.is_done d.channel (undone ds) (serving ∷ rest) away) in
    rw (first, others) refl
