-- SPDX-License-Identifier: MIT OR Apache-2.0
-- An entry is found by its number, and replaces the one with the same number.
use Rattle.controller_model.proofs.Prelude.{◌≡◌, ℕ, cond, List, [], ◌∷◌, ◌++◌, find, Option, Some, None, sym, subst, ap, inl, inr}
use Rattle.controller_model.proofs.Prelude.{cases_Bool, eqb-true, AllByRecursion, State, Removed, Entry, has_number, put_back, remaining}

-- the entry that is found has the number
abbrev pub NumberOf : ℕ → Option Entry → Type 0
NumberOf number None = Unit {0}
NumberOf number (Some e) = e.connection.number ≡ number

pub number_of_found : (number : ℕ) (es : List Entry) → NumberOf number (find (has_number number) es)
number_of_found number [] = tt
number_of_found number (x ∷ xs) =
    elim (cases_Bool (has_number number x)) [
      | inl hit ↦ subst (NumberOf number) (sym (ap (λ b. cond b (Some x) (find (has_number number) xs)) hit)) (eqb-true x.connection.number number hit)
      | inr miss ↦ subst (NumberOf number) (sym (ap (λ b. cond b (Some x) (find (has_number number) xs)) miss)) (number_of_found number xs)
    ]

-- what holds of all holds of the one that is found
pub record Found (P : Entry → Type 0) (number : ℕ) (e : Entry) : Type 0 where
  pub holds : P e
  pub is : e.connection.number ≡ number

abbrev pub FoundIn : (Entry → Type 0) → ℕ → Option Entry → Type 0
FoundIn P number None = Unit {0}
FoundIn P number (Some e) = Found P number e

pub found_in : (P : Entry → Type 0) (number : ℕ) (es : List Entry) → AllByRecursion P es → FoundIn P number (find (has_number number) es)
found_in P number [] all = tt
found_in P number (x ∷ xs) all =
    elim (cases_Bool (has_number number x)) [
      | inl hit ↦ subst (FoundIn P number) (sym (ap (λ b. cond b (Some x) (find (has_number number) xs)) hit)) (record { holds = all.0; is = eqb-true x.connection.number number hit })
      | inr miss ↦ subst (FoundIn P number) (sym (ap (λ b. cond b (Some x) (find (has_number number) xs)) miss)) (found_in P number xs all.1)
    ]

pub found : (P : Entry → Type 0) (number : ℕ) (es : List Entry) (e : Entry) →
    AllByRecursion P es →
    find (has_number number) es ≡ Some e →
    Found P number e
found P number es e all is = subst (FoundIn P number) is (found_in P number es all)

-- what holds of all, and of an entry, holds of all with it
pub remaining_all : (P : Entry → Type 0) (state : State) (e : Entry) (xs : List Entry) →
    P e →
    AllByRecursion P xs →
    AllByRecursion P (remaining state e ++ xs)
remaining_all P Removed e xs one all = all
remaining_all P _ e xs one all = (one, all)

pub put_back_all : (P : Entry → Type 0) (e : Entry) (xs : List Entry) → P e → AllByRecursion P xs → AllByRecursion P (put_back e xs)
put_back_all P e [] one all = tt
put_back_all P e (x ∷ xs) one all =
    elim (cases_Bool (has_number e.connection.number x)) [
      | inl hit ↦ subst (AllByRecursion P) (sym (ap (λ b. cond b (remaining e.connection.state e ++ xs) (x ∷ put_back e xs)) hit)) (remaining_all P e.connection.state e xs one all.1)
      | inr miss ↦ subst (AllByRecursion P) (sym (ap (λ b. cond b (remaining e.connection.state e ++ xs) (x ∷ put_back e xs)) miss)) (all.0, put_back_all P e xs one all.1)
    ]
