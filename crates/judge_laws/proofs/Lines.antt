-- SPDX-License-Identifier: MIT OR Apache-2.0
-- Due messages and those that may still arrive, tenure by tenure, as one list.
use Rattle.std.proofs.Common.{◌≡◌, ℕ, ◌≤◌, ◌<◌, Bool, true, false, List, [], ◌∷◌, ◌++◌, length, refl, sym, subst, ap, ◌∙◌, arith, nat_le, inl, inr, append_assoc, ◌==◌, ◌&&◌, ◌⊎◌}
use Rattle.std.proofs.lemmas.Bool.{cases_Bool, cond-false, cond-true, le-leb, leb-true, leb-false, lt-leb}
use Rattle.std.specs.List.{AllByRecursion}
use Rattle.std.specs.Prelude.{if◌then◌else◌}
use Rattle.conn_messages.specs.declared.channel.Place.{Place}
use Rattle.run_judge.specs.declared.connection.Tenure.{Tenure}
use Rattle.run_judge.specs.declared.flow.Due.{Due}
use Rattle.run_judge.specs.Flow.{insert_due}
use Rattle.judge_laws.proofs.Flows.{is_below, not_below}
use Rattle.judge_laws.specs.Agreeing.{Future, IsFrom, Messages, beyond, line, texts, upto}
use Rattle.judge_laws.specs.Places.{spot}

-- ---- by a due, where its rank is so far or not

pub upto_in : (rank : ℕ) (d : Due) (ds : List Due) → d.rank ≤ rank → upto rank (d ∷ ds) ≡ d ∷ upto rank ds
upto_in rank d ds less = cond-true _ _ _ (le-leb d.rank rank less)

pub beyond_in : (rank : ℕ) (d : Due) (ds : List Due) → d.rank ≤ rank → beyond rank (d ∷ ds) ≡ beyond rank ds
beyond_in rank d ds less = cond-true _ _ _ (le-leb d.rank rank less)

upto_out : (rank : ℕ) (d : Due) (ds : List Due) → rank < d.rank → upto rank (d ∷ ds) ≡ []
upto_out rank d ds more = cond-false _ _ _ (lt-leb d.rank rank more)

beyond_out : (rank : ℕ) (d : Due) (ds : List Due) → rank < d.rank → beyond rank (d ∷ ds) ≡ d ∷ ds
beyond_out rank d ds more = cond-false _ _ _ (lt-leb d.rank rank more)

insert_in : (d x : Due) (xs : List Due) → x.rank ≤ d.rank → insert_due d (x ∷ xs) ≡ x ∷ insert_due d xs
insert_in d x xs less = cond-false _ _ _ (not_below d.rank x.rank less)

insert_out : (d x : Due) (xs : List Due) → d.rank < x.rank → insert_due d (x ∷ xs) ≡ d ∷ (x ∷ xs)
insert_out d x xs more = cond-true _ _ _ (is_below d.rank x.rank more)

pub below_or : (a b : ℕ) → (a ≤ b) ⊎ (b < a)
below_or a b = elim (cases_Bool (nat_le a b)) [
  | inl hit ↦ inl (leb-true a b hit)
  | inr miss ↦ inr (leb-false a b miss)
]

-- ---- the parts together

split : (rank : ℕ) (ds : List Due) → texts (upto rank ds) ++ texts (beyond rank ds) ≡ texts ds
split rank [] = refl
split rank (d ∷ ds) = elim (below_or d.rank rank) [
  | inl less ↦ rw (upto_in rank d ds less, beyond_in rank d ds less) (ap (λ (ms : Messages). d.message ∷ ms) (split rank ds))
  | inr more ↦ rw (upto_out rank d ds more, beyond_out rank d ds more) refl
]

upto_twice : (rank next : ℕ) (ds : List Due) →
    rank ≤ next →
    texts (upto rank ds) ++ texts (upto next (beyond rank ds)) ≡ texts (upto next ds)
upto_twice rank next [] before = refl
upto_twice rank next (d ∷ ds) before = elim (below_or d.rank rank) [
  | inl less ↦
      let further : d.rank ≤ next = omega arith in
      rw (upto_in rank d ds less, beyond_in rank d ds less, upto_in next d ds further) (ap (λ (ms : Messages). d.message ∷ ms) (upto_twice rank next ds before))
  | inr more ↦ rw (upto_out rank d ds more, beyond_out rank d ds more) refl
]

beyond_twice : (rank next : ℕ) (ds : List Due) → rank ≤ next → beyond next (beyond rank ds) ≡ beyond next ds
beyond_twice rank next [] before = refl
beyond_twice rank next (d ∷ ds) before = elim (below_or d.rank rank) [
  | inl less ↦
      let further : d.rank ≤ next = omega arith in
      rw (beyond_in rank d ds less, beyond_in next d ds further) (beyond_twice rank next ds before)
  | inr more ↦ rw (beyond_out rank d ds more) refl
]

-- ---- only what may arrive on these channels counts

pub line_same : (f g : Future) (ts : List Tenure) (ds : List Due) →
    AllByRecursion (λ (t : Tenure). f (spot t.at) ≡ g (spot t.at)) ts →
    line f ts ds ≡ line g ts ds
line_same f g [] ds all = refl
line_same f g (t ∷ ts) ds all = rw (all.0, line_same f g ts (beyond t.rank ds) all.1) refl

-- ---- a tenure on whose channel nothing may arrive

pub line_dropped : (f : Future) (t : Tenure) (ts : List Tenure) (ds : List Due) →
    f (spot t.at) ≡ [] →
    AllByRecursion (IsFrom t.rank) ts →
    line f (t ∷ ts) ds ≡ line f ts ds
line_dropped f t [] ds none from = rw none (split t.rank ds)
line_dropped f t (u ∷ us) ds none from =
    rw (none, beyond_twice t.rank u.rank ds from.0)
    (sym (append_assoc (texts (upto t.rank ds)) (texts (upto u.rank (beyond t.rank ds))) (f (spot u.at) ++ line f us (beyond u.rank ds)))
    ∙ ap (λ (ms : Messages). ms ++ (f (spot u.at) ++ line f us (beyond u.rank ds))) (upto_twice t.rank u.rank ds from.0))

-- ---- a message is due

upto_insert : (d : Due) (ds : List Due) → texts (upto d.rank (insert_due d ds)) ≡ texts (upto d.rank ds) ++ d.message ∷ []
upto_insert d [] = rw (upto_in d.rank d [] (omega arith)) refl
upto_insert d (x ∷ xs) = elim (below_or x.rank d.rank) [
  | inl less ↦ rw (insert_in d x xs less, upto_in d.rank x (insert_due d xs) less, upto_in d.rank x xs less) (ap (λ (ms : Messages). x.message ∷ ms) (upto_insert d xs))
  | inr more ↦ rw (insert_out d x xs more, upto_in d.rank d (x ∷ xs) (omega arith), upto_out d.rank x xs more) refl
]

beyond_insert : (d : Due) (ds : List Due) → beyond d.rank (insert_due d ds) ≡ beyond d.rank ds
beyond_insert d [] = beyond_in d.rank d [] (omega arith)
beyond_insert d (x ∷ xs) = elim (below_or x.rank d.rank) [
  | inl less ↦ rw (insert_in d x xs less, beyond_in d.rank x (insert_due d xs) less, beyond_in d.rank x xs less) (beyond_insert d xs)
  | inr more ↦ rw (insert_out d x xs more, beyond_in d.rank d (x ∷ xs) (omega arith)) refl
]

upto_before : (rank : ℕ) (d : Due) (ds : List Due) → rank < d.rank → upto rank (insert_due d ds) ≡ upto rank ds
upto_before rank d [] before = upto_out rank d [] before
upto_before rank d (x ∷ xs) before = elim (below_or x.rank d.rank) [
  | inl less ↦ elim (below_or x.rank rank) [
    | inl in_it ↦ rw (insert_in d x xs less, upto_in rank x (insert_due d xs) in_it, upto_in rank x xs in_it) (ap (λ (ys : List Due). x ∷ ys) (upto_before rank d xs before))
    | inr behind ↦ rw (insert_in d x xs less, upto_out rank x (insert_due d xs) behind, upto_out rank x xs behind) refl
  ]
  | inr more ↦ let behind : rank < x.rank = omega arith in rw (insert_out d x xs more, upto_out rank d (x ∷ xs) before, upto_out rank x xs behind) refl
]

beyond_before : (rank : ℕ) (d : Due) (ds : List Due) → rank < d.rank → beyond rank (insert_due d ds) ≡ insert_due d (beyond rank ds)
beyond_before rank d [] before = beyond_out rank d [] before
beyond_before rank d (x ∷ xs) before = elim (below_or x.rank d.rank) [
  | inl less ↦ elim (below_or x.rank rank) [
    | inl in_it ↦ rw (insert_in d x xs less, beyond_in rank x (insert_due d xs) in_it, beyond_in rank x xs in_it) (beyond_before rank d xs before)
    | inr behind ↦ rw (insert_in d x xs less, beyond_out rank x (insert_due d xs) behind, beyond_out rank x xs behind, insert_in d x xs less) refl
  ]
  | inr more ↦ let behind : rank < x.rank = omega arith in rw (insert_out d x xs more, beyond_out rank d (x ∷ xs) before, beyond_out rank x xs behind, insert_out d x xs more) refl
]

-- whether a tenure is on this channel
abbrev pub is_here : Place → Tenure → Bool
is_here at t = (t.at.station == at.station) && (t.at.number == at.number)

-- the channel has one tenure, of this rank, and those before it are of lower ones
abbrev pub IsOn : Place → ℕ → List Tenure → Type 0
IsOn at rank [] = ⊥
IsOn at rank (t ∷ ts) =
    ((is_here at t ≡ true) × (t.rank ≡ rank) × AllByRecursion (λ (u : Tenure). is_here at u ≡ false) ts)
    ⊎ ((is_here at t ≡ false) × (t.rank < rank) × IsOn at rank ts)

-- a message is first on its channel
abbrev pub first_at : Place → List ℕ → Future → Future
first_at at message future place =
    if (place.station == at.station && place.number == at.number) then message ∷ future place else future place

others_same : (at : Place) (message : List ℕ) (f : Future) (ts : List Tenure) →
    AllByRecursion (λ (u : Tenure). is_here at u ≡ false) ts →
    AllByRecursion (λ (t : Tenure). first_at at message f (spot t.at) ≡ f (spot t.at)) ts
others_same at message f [] all = tt
others_same at message f (t ∷ ts) all = (cond-false _ _ _ all.0, others_same at message f ts all.1)

pub line_arrived : (at : Place) (d : Due) (f : Future) (ts : List Tenure) (ds : List Due) →
    IsOn at d.rank ts →
    line (first_at at d.message f) ts ds ≡ line f ts (insert_due d ds)
line_arrived at d f [] ds on = absurd on
line_arrived at d f (t ∷ ts) ds on = elim on [
  | inl here ↦
      let first : first_at at d.message f (spot t.at) ≡ d.message ∷ f (spot t.at) = cond-true _ _ _ here.0 in
      let rest = line_same (first_at at d.message f) f ts (beyond t.rank ds) (others_same at d.message f ts here.2) in
      let upper : texts (upto t.rank (insert_due d ds)) ≡ texts (upto t.rank ds) ++ d.message ∷ [] = subst (λ (k : ℕ). texts (upto k (insert_due d ds)) ≡ texts (upto k ds) ++ d.message ∷ []) (sym here.1) (upto_insert d ds) in
      let lower : beyond t.rank (insert_due d ds) ≡ beyond t.rank ds = subst (λ (k : ℕ). beyond k (insert_due d ds) ≡ beyond k ds) (sym here.1) (beyond_insert d ds) in
      rw (first, rest, upper, lower) (sym (append_assoc (texts (upto t.rank ds)) (d.message ∷ []) (f (spot t.at) ++ line f ts (beyond t.rank ds))))
  | inr later ↦
      let same : first_at at d.message f (spot t.at) ≡ f (spot t.at) = cond-false _ _ _ later.0 in
      rw (same, line_arrived at d f ts (beyond t.rank ds) later.2, upto_before t.rank d ds later.1, beyond_before t.rank d ds later.1) refl
]

-- ---- a message is passed on: it is the first that is due, of the first tenure

never : (m : List ℕ) → m ≡ 0 ∷ m → ⊥
never m same = let long = ap length same in absurd (omega arith)

-- the message, and what is due behind it
pub record IsNext (m : List ℕ) (rest : Future → Messages) (t : Tenure) (ts : List Tenure) (ds : List Due) : Type 0 where
  pub due : Due
  pub behind : List Due
  pub are : ds ≡ due ∷ behind
  pub is : due.message ≡ m
  pub within : due.rank ≤ t.rank
  pub left : (future : Future) → rest future ≡ line future (t ∷ ts) behind

-- such a message may arrive before
abbrev marked : List ℕ → Future
marked m = λ place. (0 ∷ m) ∷ []

unmarked : (m : List ℕ) (rest : Future → Messages) (t : Tenure) (ts : List Tenure) (ds : List Due) →
    upto t.rank ds ≡ [] →
    m ∷ rest (marked m) ≡ line (marked m) (t ∷ ts) ds →
    ⊥
unmarked m rest t ts ds none is =
    let first : m ∷ rest (marked m) ≡ (0 ∷ m) ∷ line (marked m) ts (beyond t.rank ds) = rw none at is in
    never m cc

pub is_next : (m : List ℕ) (rest : Future → Messages) (t : Tenure) (ts : List Tenure) (ds : List Due) →
    ((future : Future) → m ∷ rest future ≡ line future (t ∷ ts) ds) →
    IsNext m rest t ts ds
is_next m rest t ts [] is = absurd (unmarked m rest t ts [] refl (is (marked m)))
is_next m rest t ts (d ∷ ds) is = elim (below_or d.rank t.rank) [
  | inr more ↦ absurd (unmarked m rest t ts (d ∷ ds) (upto_out t.rank d ds more) (is (marked m)))
  | inl less ↦
      let each : (future : Future) → m ∷ rest future ≡ d.message ∷ line future (t ∷ ts) ds = λ future. is future ∙ (rw (upto_in t.rank d ds less, beyond_in t.rank d ds less) refl) in
      record {
        due = d;
        behind = ds;
        are = refl;
        is = (let one = each (λ place. []) in cc);
        within = less;
        left = λ future. (let one = each future in cc);
      }
]
