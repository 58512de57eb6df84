-- SPDX-License-Identifier: MIT OR Apache-2.0
-- The computed decision over reports is the one that the relation `Decides` has.
use Rattle.controller_model.proofs.Prelude.{◌≡◌, ◌≢◌, ℕ, ◌+◌, ◌<◌, ◌≤◌, ◌&&◌, ◌==◌, nat_le, not, Bool, true, false, cond, List, [], ◌∷◌}
use Rattle.controller_model.proofs.Prelude.{length, find, filter, Some, None, refl, sym, ap, ◌∙◌, inl, inr, arith, cases_Bool, leb-true}
use Rattle.controller_model.proofs.Prelude.{ne_eqb, Report, Decision, Stay, Move, Settings, list_all, cases_lt, le-leb, lt-leb, eqb-false}
use Rattle.controller_model.proofs.Prelude.{not-true, IsChosen, Chooses, Decides, NoneReaches, average_at, bound, is_due, places_from}
use Rattle.controller_model.proofs.Prelude.{reaches, reaching, is_greatest, best, moving_to, decision_where, decision_over, both_hold}
use Rattle.std.specs.Cmp.Derive.{both_true}

-- ---- places of a list that pass a test

none_passes : {X : Type 0} (ok : ℕ → Bool) (xs : List X) (first : ℕ) →
    ((j : ℕ) → first ≤ j → j < first + length xs → ok j ≡ false) →
    filter ok (places_from first xs) ≡ []
none_passes ok [] first h = refl
none_passes ok (x ∷ xs) first h =
    ap (λ b. cond b (first ∷ filter ok (places_from (first + 1) xs)) (filter ok (places_from (first + 1) xs))) (h first (omega arith) (omega arith))
    ∙ none_passes ok xs (first + 1) (λ j from to. h j (omega arith) (omega arith))

-- what holds of each place that passes, holds of all
all_pass : {X : Type 0} (ok test : ℕ → Bool) (xs : List X) (first : ℕ) →
    ((j : ℕ) → first ≤ j → j < first + length xs → ok j ≡ true → test j ≡ true) →
    list_all test (filter ok (places_from first xs)) ≡ true
all_pass ok test [] first h = refl
all_pass ok test (x ∷ xs) first h =
    let rest : list_all test (filter ok (places_from (first + 1) xs)) ≡ true = all_pass ok test xs (first + 1) (λ j from to. h j (omega arith) (omega arith)) in
    elim (cases_Bool (ok first)) [
      | inl hit ↦
          ap (λ b. list_all test (cond b (first ∷ filter ok (places_from (first + 1) xs)) (filter ok (places_from (first + 1) xs)))) hit
          ∙ ap (λ b. b && list_all test (filter ok (places_from (first + 1) xs))) (h first (omega arith) (omega arith) hit) ∙ rest
      | inr miss ↦
          ap (λ b. list_all test (cond b (first ∷ filter ok (places_from (first + 1) xs)) (filter ok (places_from (first + 1) xs)))) miss ∙ rest
    ]

-- the first one that passes both tests is found
found : {X : Type 0} (ok test : ℕ → Bool) (xs : List X) (first p : ℕ) →
    first ≤ p →
    p < first + length xs →
    ok p ≡ true →
    test p ≡ true →
    ((j : ℕ) → first ≤ j → j < p → ok j ≡ true → test j ≡ false) →
    find test (filter ok (places_from first xs)) ≡ Some p
found ok test [] first p from to is passes before = absurd (omega arith)
found ok test (x ∷ xs) first p from to is passes before =
    elim (cases_lt first p) [
      | inl below ↦
          let rest : find test (filter ok (places_from (first + 1) xs)) ≡ Some p = found ok test xs (first + 1) p (omega arith) (omega arith) is passes (λ j a b. before j (omega arith) b) in
          elim (cases_Bool (ok first)) [
            | inl hit ↦
                ap (λ b. find test (cond b (first ∷ filter ok (places_from (first + 1) xs)) (filter ok (places_from (first + 1) xs)))) hit
                ∙ ap (λ b. cond b (Some first) (find test (filter ok (places_from (first + 1) xs)))) (before first (omega arith) below hit) ∙ rest
            | inr miss ↦
                ap (λ b. find test (cond b (first ∷ filter ok (places_from (first + 1) xs)) (filter ok (places_from (first + 1) xs)))) miss ∙ rest
          ]
      | inr above ↦
          let same : first ≡ p = omega arith in
          ap (λ b. find test (cond b (first ∷ filter ok (places_from (first + 1) xs)) (filter ok (places_from (first + 1) xs)))) (ap ok same ∙ is)
          ∙ ap (λ b. cond b (Some first) (find test (filter ok (places_from (first + 1) xs)))) (ap test same ∙ passes) ∙ ap (λ n. Some n) same
    ]

-- one place that passes the first test alone is enough
not_all_pass : {X : Type 0} (ok test : ℕ → Bool) (xs : List X) (first p : ℕ) →
    first ≤ p →
    p < first + length xs →
    ok p ≡ true →
    test p ≡ false →
    list_all test (filter ok (places_from first xs)) ≡ false
not_all_pass ok test [] first p from to is fails = absurd (omega arith)
not_all_pass ok test (x ∷ xs) first p from to is fails =
    elim (cases_lt first p) [
      | inl below ↦
          let rest : list_all test (filter ok (places_from (first + 1) xs)) ≡ false = not_all_pass ok test xs (first + 1) p (omega arith) (omega arith) is fails in
          elim (cases_Bool (ok first)) [
            | inl hit ↦
                ap (λ b. list_all test (cond b (first ∷ filter ok (places_from (first + 1) xs)) (filter ok (places_from (first + 1) xs)))) hit
                ∙ ap (λ b. test first && b) rest ∙ and_false (test first)
            | inr miss ↦
                ap (λ b. list_all test (cond b (first ∷ filter ok (places_from (first + 1) xs)) (filter ok (places_from (first + 1) xs)))) miss ∙ rest
          ]
      | inr above ↦
          let same : first ≡ p = omega arith in
          ap (λ b. list_all test (cond b (first ∷ filter ok (places_from (first + 1) xs)) (filter ok (places_from (first + 1) xs)))) (ap ok same ∙ is)
          ∙ ap (λ b. b && list_all test (filter ok (places_from (first + 1) xs))) (ap test same ∙ fails)
    ] where
      and_false : (b : Bool) → (b && false) ≡ false
      and_false true = refl
      and_false false = refl

-- ---- cells that reach the bound

reaches_other : (s : Settings) (reports : List Report) (p : ℕ) →
    p + 1 ≢ s.serving →
    bound s reports ≤ average_at s reports p →
    reaches s reports p ≡ true
reaches_other s reports p other high = both_true (ap not (ne_eqb (p + 1) s.serving other)) (le-leb (bound s reports) (average_at s reports p) high)

other_reaches : (s : Settings) (reports : List Report) (p : ℕ) →
    reaches s reports p ≡ true →
    (p + 1 ≢ s.serving) × (bound s reports ≤ average_at s reports p)
other_reaches s reports p h =
    let parts = both_hold (not (p + 1 == s.serving)) (nat_le (bound s reports) (average_at s reports p)) h in
    (eqb-false (p + 1) s.serving (not-true (p + 1 == s.serving) parts.0), leb-true (bound s reports) (average_at s reports p) parts.1)

-- ---- the choice

stays : (s : Settings) (reports : List Report) → NoneReaches s reports (length s.cells) → best s reports ≡ None
stays s reports h =
    ap (λ places. find (is_greatest s reports places) places)
    (none_passes (reaches s reports) s.cells 0 (λ j from to. elim (cases_Bool (reaches s reports j)) [
      | inl hit ↦
          let parts = other_reaches s reports j hit in
          absurd (omega (arith, parts.1, h j (record { there = omega arith; other = parts.0 })))
      | inr miss ↦ miss
    ]))

moves : (s : Settings) (reports : List Report) (p : ℕ) → IsChosen s reports (length s.cells) p → best s reports ≡ Some p
moves s reports p c =
    found (reaches s reports) (is_greatest s reports (reaching s reports)) s.cells 0 p (omega arith) (omega (arith, c.cell.there))
    (reaches_other s reports p c.cell.other c.reaches)
    (all_pass (reaches s reports) (λ o. nat_le (average_at s reports o) (average_at s reports p)) s.cells 0
    (λ j from to is. le-leb (average_at s reports j) (average_at s reports p) (c.greatest j (record { there = omega arith; other = (other_reaches s reports j is).0 }))))
    (λ j from to is. not_all_pass (reaches s reports) (λ o. nat_le (average_at s reports o) (average_at s reports j)) s.cells 0 p (omega arith) (omega (arith, c.cell.there))
    (reaches_other s reports p c.cell.other c.reaches)
    (lt-leb (average_at s reports p) (average_at s reports j) (c.first j (record { there = omega (arith, c.cell.there); other = (other_reaches s reports j is).0 }) to)))

chosen : (s : Settings) (reports : List Report) (d : Decision) → Chooses s reports (length s.cells) d → d ≡ moving_to (best s reports)
chosen s reports Stay h = sym (ap moving_to (stays s reports h))
chosen s reports (Move number) h = ap (λ n. Move n) h.1 ∙ sym (ap moving_to (moves s reports h.0 h.2))

where_due : (b : Bool) (s : Settings) (reports : List Report) (number : ℕ) (d : Decision) →
    reports ≢ [] →
    is_due s reports number ≡ b →
    Decides s reports number d →
    d ≡ decision_where b s reports
where_due false s reports number d some due h = h.not_due due
where_due true s reports number d some due h = chosen s reports d (h.due some due)

pub decision_is : (s : Settings) (reports : List Report) (number : ℕ) (d : Decision) →
    Decides s reports number d →
    d ≡ decision_over s reports number
decision_is s [] number d h = h.none refl
decision_is s (r ∷ rs) number d h = where_due (is_due s (r ∷ rs) number) s (r ∷ rs) number d (λ nil. absurd cc) refl h
