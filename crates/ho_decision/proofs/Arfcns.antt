-- SPDX-License-Identifier: MIT OR Apache-2.0
-- `other_arfcns` is rising, and has the ARFCNs of the other cells and no others.
use Rattle.std.proofs.Common.{◌≡◌, ℕ, ◌+◌, ◌<◌, ◌≤◌, ◌==◌, ◌||◌, Bool, true, false, cond, nat_lt, List, [], ◌∷◌, length, get_or, fold, insert, count_by, refl, sym, ap, ◌∙◌, subst, arith, zero, suc}
use Rattle.std.specs.List.{list_any}
use Rattle.std.specs.List.Sorted.{IsStrictlyIncreasing}
use Rattle.std.proofs.lemmas.Bool.{ltb-true, ltb-false, le-ltb, eqb-true, eqb-false, true≢false}
use Rattle.std.proofs.lemmas.List.Sums.{sum_by-cons}
use Rattle.ho_decision.specs.declared.settings.Cell.{Cell}
use Rattle.ho_decision.specs.Settings.{Settings, with_cell, others, other_arfcns}

-- every number is above a
abbrev pub Above : ℕ → List ℕ → Type 0
Above a [] = Unit {0}
Above a (x ∷ xs) = (a < x) × Above a xs

abbrev pub Rising : List ℕ → Type 0
Rising [] = Unit {0}
Rising (x ∷ xs) = Above x xs × Rising xs

-- where an ARFCN is inserted
abbrev place : List ℕ → ℕ → ℕ
place xs a = count_by (λ x. nat_lt x a) xs

place-cons : (x : ℕ) (xs : List ℕ) (a : ℕ) → place (x ∷ xs) a ≡ cond (nat_lt x a) 1 0 + place xs a
place-cons x xs a = sum_by-cons (λ y. cond (nat_lt y a) 1 0) x xs

above_weaker : (a b : ℕ) (xs : List ℕ) → a ≤ b → Above b xs → Above a xs
above_weaker a b [] le h = tt
above_weaker a b (x ∷ xs) le h = (omega (arith, h.0), above_weaker a b xs le h.1)

-- an ARFCN below all others is inserted at the front
place_first : (a c : ℕ) (xs : List ℕ) → a ≤ c → Above c xs → place xs a ≡ 0
place_first a c [] le h = refl
place_first a c (x ∷ xs) le h =
    place-cons x xs a
    ∙ ap (λ b. cond b 1 0 + place xs a) (le-ltb x a (omega (arith, h.0)))
    ∙ omega (arith, place_first a c xs le h.1)

above_insert : (b a : ℕ) (k : ℕ) (xs : List ℕ) → b < a → Above b xs → Above b (insert xs k a)
above_insert b a zero xs lt h = (lt, h)
above_insert b a (suc k) [] lt h = (lt, tt)
above_insert b a (suc k) (x ∷ xs) lt h = (h.0, above_insert b a k xs lt h.1)

-- an ARFCN that isn't there is inserted before the head or behind it
insert_behind : (b : Bool) (a x : ℕ) (xs : List ℕ) →
    nat_lt x a ≡ b →
    (x == a) ≡ false →
    Above x xs →
    Rising xs →
    Rising (insert xs (place xs a) a) →
    Rising (insert (x ∷ xs) (cond b 1 0 + place xs a) a)
insert_behind true a x xs lt ne above rising rest =
    let P : ℕ → Type 0 = λ k. Rising (insert (x ∷ xs) k a) in
    let k : suc (place xs a) ≡ 1 + place xs a = omega arith in
    subst P k (above_insert x a (place xs a) xs (ltb-true x a lt) above, rest)
insert_behind false a x xs ge ne above rising rest =
    let le : a ≤ x = ltb-false x a ge in
    let apart : x ≡ a → ⊥ = eqb-false x a ne in
    let lt : a < x = omega arith in
    let P : ℕ → Type 0 = λ k. Rising (insert (x ∷ xs) k a) in
    let k : 0 ≡ 0 + place xs a = omega (arith, place_first a x xs le above) in
    subst P k ((lt, above_weaker a x xs le above), (above, rising))

or_false : (a b : Bool) → (a || b) ≡ false → (a ≡ false) × (b ≡ false)
or_false true b e = absurd (true≢false e)
or_false false b e = (refl, e)

rising_insert : (a : ℕ) (xs : List ℕ) → Rising xs → list_any (λ x. x == a) xs ≡ false → Rising (insert xs (place xs a) a)
rising_insert a [] h none = (tt, tt)
rising_insert a (x ∷ xs) h none =
    let parts = or_false (x == a) (list_any (λ y. y == a) xs) none in
    let P : ℕ → Type 0 = λ k. Rising (insert (x ∷ xs) k a) in
    subst P
    (sym (place-cons x xs a))
    (insert_behind (nat_lt x a) a x xs refl parts.0 h.0 h.1 (rising_insert a xs h.1 parts.1))

with_by : (b : Bool) (xs : List ℕ) (a : ℕ) → list_any (λ x. x == a) xs ≡ b → Rising xs → Rising (cond b xs (insert xs (place xs a) a))
with_by true xs a e h = h
with_by false xs a e h = rising_insert a xs h e

rising_fold : (xs : List ℕ) (cells : List Cell) → Rising xs → Rising (fold with_cell xs cells)
rising_fold xs [] h = h
rising_fold xs (cell ∷ cells) h =
    rising_fold (with_cell xs cell) cells (with_by (list_any (λ x. x == cell.arfcn) xs) xs cell.arfcn refl h)

above_first : (a : ℕ) (xs : List ℕ) → 0 < length xs → Above a xs → a < get_or xs 0 0
above_first a [] some h = absurd (omega arith)
above_first a (x ∷ xs) some h = h.0

is_strictly_increasing_from_rising : (xs : List ℕ) → Rising xs → IsStrictlyIncreasing xs
is_strictly_increasing_from_rising [] h k within = absurd (omega arith)
is_strictly_increasing_from_rising (x ∷ xs) h zero within = above_first x xs (omega arith) h.0
is_strictly_increasing_from_rising (x ∷ xs) h (suc k) within =
    let P : ℕ → Type 0 = λ n. get_or (x ∷ xs) (suc k) 0 < get_or (x ∷ xs) n 0 in
    let next : suc (k + 1) ≡ suc k + 1 = omega arith in
    subst P next (is_strictly_increasing_from_rising xs h.1 k (omega arith))

pub other_arfcns_rising : (s : Settings) → Rising (other_arfcns s)
other_arfcns_rising s = rising_fold [] (others s) tt

pub other_arfcns_strictly_increase : (s : Settings) → IsStrictlyIncreasing (other_arfcns s)
other_arfcns_strictly_increase s = is_strictly_increasing_from_rising (other_arfcns s) (other_arfcns_rising s)

or_comm : (a b : Bool) → (a || b) ≡ (b || a)
or_comm true true = refl
or_comm true false = refl
or_comm false true = refl
or_comm false false = refl

or_assoc : (a b c : Bool) → (a || (b || c)) ≡ ((a || b) || c)
or_assoc true b c = refl
or_assoc false b c = refl

-- a number that is put in
any_insert : (p : ℕ → Bool) (k b : ℕ) (xs : List ℕ) → list_any p (insert xs k b) ≡ (list_any p xs || p b)
any_insert p zero b xs = or_comm (p b) (list_any p xs)
any_insert p (suc k) b [] = or_comm (p b) false
any_insert p (suc k) b (x ∷ xs) =
    ap (λ r. p x || r) (any_insert p k b xs) ∙ or_assoc (p x) (list_any p xs) (p b)

-- one that is there already
any_there : (t : Bool) (a b : ℕ) (xs : List ℕ) →
    (b == a) ≡ t →
    list_any (λ x. x == b) xs ≡ true →
    list_any (λ x. x == a) xs ≡ (list_any (λ x. x == a) xs || t)
any_there false a b xs e there = or_comm false (list_any (λ x. x == a) xs)
any_there true a b xs e there =
    let P : ℕ → Type 0 = λ n. list_any (λ x. x == n) xs ≡ true in
    let here : list_any (λ x. x == a) xs ≡ true = subst P (eqb-true b a e) there in
    here ∙ ap (λ r. r || true) (sym here)

any_by : (t : Bool) (a b : ℕ) (xs : List ℕ) →
    list_any (λ x. x == b) xs ≡ t →
    list_any (λ x. x == a) (cond t xs (insert xs (place xs b) b)) ≡ (list_any (λ x. x == a) xs || (b == a))
any_by true a b xs there = any_there (b == a) a b xs refl there
any_by false a b xs none = any_insert (λ x. x == a) (place xs b) b xs

any_fold : (a : ℕ) (xs : List ℕ) (cells : List Cell) →
    list_any (λ x. x == a) (fold with_cell xs cells) ≡ (list_any (λ x. x == a) xs || list_any (λ c. c.arfcn == a) cells)
any_fold a xs [] = or_comm false (list_any (λ x. x == a) xs)
any_fold a xs (cell ∷ cells) =
    any_fold a (with_cell xs cell) cells
    ∙ ap (λ r. r || list_any (λ c. c.arfcn == a) cells) (any_by (list_any (λ x. x == cell.arfcn) xs) a cell.arfcn xs refl)
    ∙ sym (or_assoc (list_any (λ x. x == a) xs) (cell.arfcn == a) (list_any (λ c. c.arfcn == a) cells))

pub other_arfcns-members : (s : Settings) (a : ℕ) → list_any (λ x. x == a) (other_arfcns s) ≡ list_any (λ c. c.arfcn == a) (others s)
other_arfcns-members s a = any_fold a [] (others s)
