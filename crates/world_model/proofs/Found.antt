-- SPDX-License-Identifier: MIT OR Apache-2.0
-- Mobiles found by their numbers.
use Rattle.world_model.proofs.Prelude.{◌≡◌, ◌≢◌, ℕ, Bool, true, false, if◌then◌else◌, cond, List, [], ◌∷◌, ◌++◌, find, unwrap_or, Option, Some, None}
use Rattle.world_model.proofs.Prelude.{refl, sym, ap, ◌∙◌, inl, inr, cases_Bool, eqb-true, ne_eqb, eq-eqb, Mobile, has_number, put_back}
use Rattle.std.proofs.lemmas.Option.{none-some}

-- one that is found has the number
pub number_found : (number : ℕ) (xs : List Mobile) (p : Mobile) → find (has_number number) xs ≡ Some p → p.number ≡ number
number_found number [] p found = absurd cc
number_found number (x ∷ xs) p found =
    elim (cases_Bool (has_number number x)) [
      | inl hit ↦ ap (λ (q : Mobile). q.number) (sym (some_same (sym (ap (λ (b : Bool). cond b (Some x) (find (has_number number) xs)) hit) ∙ found))) ∙ eqb-true x.number number hit
      | inr miss ↦ number_found number xs p (sym (ap (λ (b : Bool). cond b (Some x) (find (has_number number) xs)) miss) ∙ found)
    ] where
      some_same : {a b : Mobile} → Some a ≡ Some b → a ≡ b
      some_same {a} is = ap (λ (o : Option Mobile). unwrap_or o a) is

-- one that is put back is found
pub back_found : (q : Mobile) (xs : List Mobile) (p : Mobile) →
    find (has_number q.number) xs ≡ Some p →
    find (has_number q.number) (put_back q xs) ≡ Some q
back_found q [] p found = absurd cc
back_found q (x ∷ xs) p found =
    elim (cases_Bool (has_number q.number x)) [
      | inl hit ↦ ap (λ (b : Bool). find (has_number q.number) (cond b (q ∷ xs) (x ∷ put_back q xs))) hit ∙ ap (λ (b : Bool). cond b (Some q) (find (has_number q.number) xs)) (eq-eqb q.number q.number refl)
      | inr miss ↦
          ap (λ (b : Bool). find (has_number q.number) (cond b (q ∷ xs) (x ∷ put_back q xs))) miss
          ∙ ap (λ (b : Bool). cond b (Some x) (find (has_number q.number) (put_back q xs))) miss
          ∙ back_found q xs p (sym (ap (λ (b : Bool). cond b (Some x) (find (has_number q.number) xs)) miss) ∙ found)
    ]

-- and all others are unchanged
pub back_other : (q : Mobile) (xs : List Mobile) (number : ℕ) →
    q.number ≢ number →
    find (has_number number) (put_back q xs) ≡ find (has_number number) xs
back_other q [] number differs = refl
back_other q (x ∷ xs) number differs =
    elim (cases_Bool (has_number q.number x)) [
      | inl hit ↦
          ap (λ (b : Bool). find (has_number number) (cond b (q ∷ xs) (x ∷ put_back q xs))) hit
          ∙ ap (λ (b : Bool). cond b (Some q) (find (has_number number) xs)) (ne_eqb q.number number differs)
          ∙ sym (ap (λ (b : Bool). cond b (Some x) (find (has_number number) xs)) (ne_eqb x.number number (λ is. differs (sym (eqb-true x.number q.number hit) ∙ is))))
      | inr miss ↦
          ap (λ (b : Bool). find (has_number number) (cond b (q ∷ xs) (x ∷ put_back q xs))) miss
          ∙ ap (λ (o : Option Mobile). if has_number number x then Some x else o) (back_other q xs number differs)
    ]

-- a new one is behind all others
pub new_found : (q : Mobile) (xs : List Mobile) → find (has_number q.number) xs ≡ None → find (has_number q.number) (xs ++ q ∷ []) ≡ Some q
new_found q [] none = ap (λ (b : Bool). cond b (Some q) None) (eq-eqb q.number q.number refl)
new_found q (x ∷ xs) none =
    elim (cases_Bool (has_number q.number x)) [
      | inl hit ↦ absurd (none-some x (sym none ∙ ap (λ (b : Bool). cond b (Some x) (find (has_number q.number) xs)) hit))
      | inr miss ↦
          ap (λ (b : Bool). cond b (Some x) (find (has_number q.number) (xs ++ q ∷ []))) miss
          ∙ new_found q xs (sym (ap (λ (b : Bool). cond b (Some x) (find (has_number q.number) xs)) miss) ∙ none)
    ]

pub new_other : (q : Mobile) (xs : List Mobile) (number : ℕ) →
    q.number ≢ number →
    find (has_number number) (xs ++ q ∷ []) ≡ find (has_number number) xs
new_other q [] number differs = ap (λ (b : Bool). cond b (Some q) None) (ne_eqb q.number number differs)
new_other q (x ∷ xs) number differs = ap (λ (o : Option Mobile). if has_number number x then Some x else o) (new_other q xs number differs)

-- one is found before those that are behind
pub found_front : (number : ℕ) (p : Mobile) (xs ys : List Mobile) →
    find (has_number number) xs ≡ Some p →
    find (has_number number) (xs ++ ys) ≡ Some p
found_front number p [] ys found = absurd cc
found_front number p (x ∷ xs) ys found = by (has_number number x) (found_front number p xs ys) found where
  by : (b : Bool) →
      (find (has_number number) xs ≡ Some p → find (has_number number) (xs ++ ys) ≡ Some p) →
      cond b (Some x) (find (has_number number) xs) ≡ Some p →
      cond b (Some x) (find (has_number number) (xs ++ ys)) ≡ Some p
  by true others here = here
  by false others there = others there
