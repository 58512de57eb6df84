-- SPDX-License-Identifier: MIT OR Apache-2.0
-- Look-ups of entries by number, after one was replaced or one more was appended.
use Rattle.controller_model.proofs.Prelude.{◌≡◌, ◌≢◌, ◌⊎◌, ℕ, ◌<◌, false, cond, List, [], ◌∷◌, ◌++◌, find, Option, Some, None, refl, sym}
use Rattle.controller_model.proofs.Prelude.{subst, ap, ◌∙◌, inl, inr, arith, cases_Bool, cond-true, cond-false, eqb-true, eq-eqb, ne_eqb}
use Rattle.controller_model.proofs.Prelude.{AllByRecursion, State, WaitActivation, WaitEstablish, WaitConfirm, Live, Closed, Removed}
use Rattle.controller_model.proofs.Prelude.{IsAbove, IsBelow, AreRising, Entry, has_number, remaining, put_back}
use Rattle.controller_model.proofs.Entries.{remaining_all}

-- ---- an entry that is kept, or is removed

abbrev pub entry_kept : State → Entry → Option Entry
entry_kept Removed e = None
entry_kept _ e = Some e

pub remaining_is : (state : State) (e : Entry) →
    ((remaining state e ≡ []) × (entry_kept state e ≡ None)) ⊎ ((remaining state e ≡ e ∷ []) × (entry_kept state e ≡ Some e))
remaining_is Removed e = inl (refl, refl)
remaining_is WaitActivation e = inr (refl, refl)
remaining_is WaitEstablish e = inr (refl, refl)
remaining_is WaitConfirm e = inr (refl, refl)
remaining_is (Live reference stage) e = inr (refl, refl)
remaining_is (Closed clearing) e = inr (refl, refl)

-- ---- an entry is put back

back_cases : (P : List Entry → Type 0) (e x : Entry) (xs : List Entry) →
    (x.connection.number ≡ e.connection.number → P (remaining e.connection.state e ++ xs)) →
    (has_number e.connection.number x ≡ false → P (x ∷ put_back e xs)) →
    P (put_back e (x ∷ xs))
back_cases P e x xs hits misses = elim (cases_Bool (has_number e.connection.number x)) [
  | inl hit ↦ subst P (sym (cond-true _ _ _ hit)) (hits (eqb-true x.connection.number e.connection.number hit))
  | inr miss ↦ subst P (sym (cond-false _ _ _ miss)) (misses miss)
]

-- what holds of all numbers
pub back_all : (Q : ℕ → Type 0) (e : Entry) (xs : List Entry) →
    AllByRecursion (λ (x : Entry). Q x.connection.number) xs →
    AllByRecursion (λ (x : Entry). Q x.connection.number) (put_back e xs)
back_all Q e [] all = tt
back_all Q e (x ∷ xs) all = back_cases (AllByRecursion (λ (x : Entry). Q x.connection.number)) e x xs
    (λ same. remaining_all (λ (x : Entry). Q x.connection.number) e.connection.state e xs (subst Q same all.0) all.1)
    (λ miss. (all.0, back_all Q e xs all.1))

remaining_rising : (state : State) (e : Entry) (xs : List Entry) →
    AllByRecursion (IsAbove e.connection.number) xs →
    AreRising xs →
    AreRising (remaining state e ++ xs)
remaining_rising state e xs above rising = elim (remaining_is state e) [
  | inl gone ↦ subst (λ (ys : List Entry). AreRising (ys ++ xs)) (sym gone.0) rising
  | inr unchanged ↦ subst (λ (ys : List Entry). AreRising (ys ++ xs)) (sym unchanged.0) (above, rising)
]

pub back_rising : (e : Entry) (xs : List Entry) → AreRising xs → AreRising (put_back e xs)
back_rising e [] rising = tt
back_rising e (x ∷ xs) rising = back_cases AreRising e x xs
    (λ same. remaining_rising e.connection.state e xs (subst (λ (n : ℕ). AllByRecursion (IsAbove n) xs) same rising.0) rising.1)
    (λ miss. (back_all (λ n. x.connection.number < n) e xs rising.0, back_rising e xs rising.1))

-- ---- looking one up

pub find_here : (n : ℕ) (x : Entry) (xs : List Entry) → x.connection.number ≡ n → find (has_number n) (x ∷ xs) ≡ Some x
find_here n x xs same = cond-true _ _ _ (eq-eqb x.connection.number n same)

pub find_behind : (n : ℕ) (x : Entry) (xs : List Entry) → n ≢ x.connection.number → find (has_number n) (x ∷ xs) ≡ find (has_number n) xs
find_behind n x xs other = cond-false _ _ _ (ne_eqb x.connection.number n (λ same. other (sym same)))

pub find_above : (n : ℕ) (xs : List Entry) → AllByRecursion (IsAbove n) xs → find (has_number n) xs ≡ None
find_above n [] above = refl
find_above n (x ∷ xs) above = find_behind n x xs (λ same. absurd (omega arith)) ∙ find_above n xs above.1

pub find_below : (n : ℕ) (xs : List Entry) → AllByRecursion (IsBelow n) xs → find (has_number n) xs ≡ None
find_below n [] below = refl
find_below n (x ∷ xs) below = find_behind n x xs (λ same. absurd (omega arith)) ∙ find_below n xs below.1

-- what is found has the number
pub found_number : (n : ℕ) (xs : List Entry) (e : Entry) → find (has_number n) xs ≡ Some e → e.connection.number ≡ n
found_number n [] e is = absurd cc
found_number n (x ∷ xs) e is = elim (cases_Bool (has_number n x)) [
  | inl hit ↦ let same : Some x ≡ Some e = sym (cond-true _ _ _ hit) ∙ is in
      let one : x ≡ e = cc in
      ap (λ (y : Entry). y.connection.number) (sym one) ∙ eqb-true x.connection.number n hit
  | inr miss ↦ found_number n xs e (sym (cond-false _ _ _ miss) ∙ is)
]

pub remaining_over : (n : ℕ) (state : State) (e : Entry) (xs : List Entry) →
    n ≢ e.connection.number →
    find (has_number n) (remaining state e ++ xs) ≡ find (has_number n) xs
remaining_over n state e xs other = elim (remaining_is state e) [
  | inl gone ↦ ap (λ (ys : List Entry). find (has_number n) (ys ++ xs)) gone.0
  | inr unchanged ↦ ap (λ (ys : List Entry). find (has_number n) (ys ++ xs)) unchanged.0 ∙ find_behind n e xs other
]

pub back_over : (n : ℕ) (e : Entry) (xs : List Entry) →
    n ≢ e.connection.number →
    find (has_number n) (put_back e xs) ≡ find (has_number n) xs
back_over n e [] other = refl
back_over n e (x ∷ xs) other = back_cases (λ (ys : List Entry). find (has_number n) ys ≡ find (has_number n) (x ∷ xs)) e x xs
    (λ same. remaining_over n e.connection.state e xs other ∙ sym (find_behind n x xs (λ is. other (is ∙ same))))
    (λ miss. ap (λ (o : Option Entry). cond (has_number n x) (Some x) o) (back_over n e xs other))

remaining_found : (state : State) (e : Entry) (xs : List Entry) →
    AllByRecursion (IsAbove e.connection.number) xs →
    find (has_number e.connection.number) (remaining state e ++ xs) ≡ entry_kept state e
remaining_found state e xs above = elim (remaining_is state e) [
  | inl gone ↦ ap (λ (ys : List Entry). find (has_number e.connection.number) (ys ++ xs)) gone.0 ∙ find_above e.connection.number xs above ∙ sym gone.1
  | inr unchanged ↦ ap (λ (ys : List Entry). find (has_number e.connection.number) (ys ++ xs)) unchanged.0 ∙ find_here e.connection.number e xs refl ∙ sym unchanged.1
]

-- the entry itself, unless it is removed
pub back_found : (e x : Entry) (xs : List Entry) →
    AreRising xs →
    find (has_number e.connection.number) xs ≡ Some x →
    find (has_number e.connection.number) (put_back e xs) ≡ entry_kept e.connection.state e
back_found e x [] rising there = absurd cc
back_found e x (y ∷ xs) rising there = back_cases (λ (ys : List Entry). find (has_number e.connection.number) ys ≡ entry_kept e.connection.state e) e y xs
    (λ same. remaining_found e.connection.state e xs (subst (λ (n : ℕ). AllByRecursion (IsAbove n) xs) same rising.0))
    (λ miss. cond-false _ _ _ miss ∙ back_found e x xs rising.1 (sym (cond-false _ _ _ miss) ∙ there))

pub behind_over : (n : ℕ) (e : Entry) (xs : List Entry) →
    n ≢ e.connection.number →
    find (has_number n) (xs ++ e ∷ []) ≡ find (has_number n) xs
behind_over n e [] other = find_behind n e [] other
behind_over n e (x ∷ xs) other = ap (λ (o : Option Entry). cond (has_number n x) (Some x) o) (behind_over n e xs other)

pub behind_found : (e : Entry) (xs : List Entry) →
    find (has_number e.connection.number) xs ≡ None →
    find (has_number e.connection.number) (xs ++ e ∷ []) ≡ Some e
behind_found e [] none = find_here e.connection.number e [] refl
behind_found e (x ∷ xs) none = elim (cases_Bool (has_number e.connection.number x)) [
  | inl hit ↦ let found : Some x ≡ None = sym (cond-true _ _ _ hit) ∙ none in absurd cc
  | inr miss ↦ cond-false _ _ _ miss ∙ behind_found e xs (sym (cond-false _ _ _ miss) ∙ none)
]

pub all_push : (P : Entry → Type 0) (xs : List Entry) (e : Entry) → AllByRecursion P xs → P e → AllByRecursion P (xs ++ e ∷ [])
all_push P [] e all here = (here, tt)
all_push P (x ∷ xs) e all here = (all.0, all_push P xs e all.1 here)

pub all_weaker : (P Q : Entry → Type 0) (xs : List Entry) → ((x : Entry) → P x → Q x) → AllByRecursion P xs → AllByRecursion Q xs
all_weaker P Q [] weaker all = tt
all_weaker P Q (x ∷ xs) weaker all = (weaker x all.0, all_weaker P Q xs weaker all.1)

pub rising_push : (xs : List Entry) (e : Entry) → AreRising xs → AllByRecursion (IsBelow e.connection.number) xs → AreRising (xs ++ e ∷ [])
rising_push [] e rising below = (tt, tt)
rising_push (x ∷ xs) e rising below = (all_push (IsAbove x.connection.number) xs e rising.0 below.0, rising_push xs e rising.1 below.1)
