-- SPDX-License-Identifier: MIT OR Apache-2.0
-- A walk continues after the element at the front, whatever number of steps it may take.
use Rattle.std.proofs.Common.{◌≡◌, ℕ, zero, suc, ◌<◌, ◌≤◌, Bool, true, false, cond, List, [], ◌∷◌, length, Option, Some, None, Result, Ok, Err, refl, sym, ap, ◌∙◌, arith, eqb, ◌≢◌, eq-eqb, option_map}
use Rattle.std.specs.List.{find}
use Rattle.std.proofs.lemmas.Bool.{ne_eqb}
use Rattle.std.proofs.lemmas.List.{length-drop}
use Rattle.octets.specs.declared.element.Entry.{Entry}
use Rattle.octets.specs.declared.element.Format.{Format}
use Rattle.octets.specs.declared.element.Cut.{Cut}
use Rattle.octets.specs.Element.{Element, element, format_in}
use Rattle.octets.proofs.Steps.{bind_ok, split_ok}
use Rattle.octets.specs.Answer.{◌>>=◌}
use Rattle.octets.specs.Front.{split_at}
use Rattle.octets.specs.Walk.{the_cut, width_of, size_by, element_at, front_by, front_of, Finding, finding_by, walk_within, walk, first_of}

split_rest : (size : ℕ) (octets : List ℕ) (p : List ℕ × List ℕ) → split_at the_cut size octets ≡ Ok p → length p.1 ≤ length octets
split_rest size octets p e =
    let s = split_ok the_cut size octets p e in
    omega (arith, length-drop size octets, ap length s.back)

some_is : (f g : Element × List ℕ) → (let a : Result (Option (Element × List ℕ)) Cut = Ok (Some f) in a) ≡ Ok (Some g) → f ≡ g
some_is f g e = cc

element_rest : (id : ℕ) (format : Format) (octets : List ℕ) (f : Element × List ℕ) →
    element_at id format octets ≡ Ok (Some f) → length f.1 ≤ length octets
element_rest id format octets f e =
    let a = bind_ok (split_at the_cut (width_of format) octets) (λ size. split_at the_cut (size_by format size.0) size.1 >>= λ value. Ok (Some (element id value.0, value.1))) (Some f) e in
    let b = bind_ok (split_at the_cut (size_by format a.0.0) a.0.1) (λ value. Ok (Some (element id value.0, value.1))) (Some f) a.2 in
    let first = split_rest (width_of format) octets a.0 a.1 in
    let second = split_rest (size_by format a.0.0) a.0.1 b.0 b.1 in
    let is = some_is (element id b.0.0, b.0.1) f b.2 in
    omega (arith, first, second, ap (λ (g : Element × List ℕ). length g.1) is)

front_rest : (id : ℕ) (format : Option Format) (octets : List ℕ) (f : Element × List ℕ) →
    front_by id format octets ≡ Ok (Some f) → length f.1 ≤ length octets
front_rest id None octets f e = absurd cc
front_rest id (Some format) octets f e = element_rest id format octets f e

-- each step takes an octet at least
pub front_shorter : (table : List Entry) (octets : List ℕ) (f : Element × List ℕ) →
    front_of table octets ≡ Ok (Some f) → length f.1 < length octets
front_shorter table [] f e = absurd cc
front_shorter table (id ∷ octets) f e = omega (arith, front_rest id (format_in table id) octets f e)

-- two ways to go on that agree behind the front
same_by : (front : Result (Option (Element × List ℕ)) Cut) (go on : List ℕ → Finding) →
    ((f : Element × List ℕ) → front ≡ Ok (Some f) → go f.1 ≡ on f.1) → finding_by front go ≡ finding_by front on
same_by (Err e) go on h = refl
same_by (Ok None) go on h = refl
same_by (Ok (Some f)) go on h = ap (λ (w : Finding). record { elements = f.0 ∷ w.elements; is_cut = w.is_cut }) (h f refl)

-- steps enough are enough
enough : (table : List Entry) (n m : ℕ) (octets : List ℕ) → length octets ≤ n → length octets ≤ m →
    walk_within table n octets ≡ walk_within table m octets
enough table zero zero octets le le' = refl
enough table zero (suc m) [] le le' = refl
enough table zero (suc m) (x ∷ octets) le le' = absurd (omega arith)
enough table (suc n) zero [] le le' = refl
enough table (suc n) zero (x ∷ octets) le le' = absurd (omega arith)
enough table (suc n) (suc m) octets le le' =
    same_by (front_of table octets) (walk_within table n) (walk_within table m)
    (λ f e. let lt = front_shorter table octets f e in enough table n m f.1 (omega arith) (omega arith))

pub walk-front : (table : List Entry) (octets : List ℕ) (front : Result (Option (Element × List ℕ)) Cut) →
    front_of table octets ≡ front → walk table octets ≡ finding_by front (walk table)
unfolding walk
walk-front table [] front e = ap (λ r. finding_by r (λ rest. walk_within table (length rest) rest)) e
walk-front table (x ∷ octets) front e =
    same_by (front_of table (x ∷ octets)) (walk_within table (length octets)) (λ rest. walk_within table (length rest) rest)
    (λ f is. let lt = front_shorter table (x ∷ octets) f is in enough table (length octets) (length f.1) f.1 (omega arith) (omega arith))
    ∙ ap (λ r. finding_by r (λ rest. walk_within table (length rest) rest)) e

-- ---- what the two loops keep

pub cut_front : (table : List Entry) (octets : List ℕ) (front : Result (Option (Element × List ℕ)) Cut) (total : Bool) →
    front ≡ front_of table octets → (walk table octets).is_cut ≡ total → (finding_by front (walk table)).is_cut ≡ total
cut_front table octets front total e so_far = sym (ap (λ (w : Finding). w.is_cut) (walk-front table octets front (sym e))) ∙ so_far

pub first_front : (table : List Entry) (octets : List ℕ) (front : Result (Option (Element × List ℕ)) Cut) (id : ℕ)
    (total : Option (List ℕ)) → front ≡ front_of table octets → first_of id (walk table octets).elements ≡ total →
    first_of id (finding_by front (walk table)).elements ≡ total
first_front table octets front id total e so_far = sym (ap (λ (w : Finding). first_of id w.elements) (walk-front table octets front (sym e))) ∙ so_far

first_by : (b : Bool) (e : Element) (es : List Element) (id : ℕ) → eqb e.id id ≡ b →
    first_of id (e ∷ es) ≡ cond b (Some e.value) (first_of id es)
first_by true e es id h = ap (λ b. option_map (λ (x : Element). x.value) (cond b (Some e) (find (λ (x : Element). eqb x.id id) es))) h
first_by false e es id h = ap (λ b. option_map (λ (x : Element). x.value) (cond b (Some e) (find (λ (x : Element). eqb x.id id) es))) h

-- an element at the front that has the identifier is the first one
pub first_here : (e : Element) (es : List Element) (id : ℕ) → e.id ≡ id → first_of id (e ∷ es) ≡ Some e.value
first_here e es id h = first_by true e es id (eq-eqb _ _ h)

-- an element with another identifier is passed over
pub first_behind : (e : Element) (es : List Element) (id : ℕ) → e.id ≢ id → first_of id (e ∷ es) ≡ first_of id es
first_behind e es id h = first_by false e es id (ne_eqb _ _ h)
