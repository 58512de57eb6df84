-- SPDX-License-Identifier: MIT OR Apache-2.0
-- The walk over options: with steps enough it continues after the option at the front.
use Rattle.std.proofs.Common.{◌≡◌, ◌≢◌, ℕ, zero, suc, ◌<◌, ◌≤◌, Bool, true, false, cond, eqb, List, [], ◌∷◌, length, Option, Some, None, Result, Ok, Err, refl, sym, ap, ◌∙◌, arith, eq-eqb}
use Rattle.std.proofs.lemmas.Bool.{ne_eqb}
use Rattle.octets.proofs.Steps.{bind_ok}
use Rattle.octets.specs.Front.{counted_at}
use Rattle.bssmap_codec.specs.declared.fault.InterfaceFault.{InterfaceFault}
use Rattle.bssmap_codec.specs.declared.fault.InterfaceFault.TheVariants.{Short}
use Rattle.bssmap_codec.specs.declared.identifiers.TheConstants.{END_OF_OPTIONS, USER_DATA}
use Rattle.bssmap_codec.specs.SccpReading.{Front, option_behind, option_at, data_by, data_within, data_in}
use Rattle.bssmap_codec.proofs.Fronts.{counted_shorter}

some_is : (f g : ℕ × List ℕ × List ℕ) → (let r : Result Front InterfaceFault = Ok (Some f) in r) ≡ Ok (Some g) → f ≡ g
some_is f g e = cc

behind_shorter : (id : ℕ) (octets : List ℕ) (f : ℕ × List ℕ × List ℕ) → option_behind id octets ≡ Ok (Some f) → length f.2 < length octets
behind_shorter id octets f e =
    let a = bind_ok (counted_at Short octets) (λ value. Ok (Some (id, value.0, value.1))) (Some f) e in
    let is = some_is (id, a.0.0, a.0.1) f a.2 in
    omega (arith, counted_shorter octets a.0 a.1, ap (λ (g : ℕ × List ℕ × List ℕ). length g.2) is)

cond_shorter : (b : Bool) (id : ℕ) (octets : List ℕ) (f : ℕ × List ℕ × List ℕ) →
    cond b (Ok None) (option_behind id octets) ≡ Ok (Some f) → length f.2 < length octets
cond_shorter true id octets f e = absurd cc
cond_shorter false id octets f e = behind_shorter id octets f e

-- each option takes an octet at least
pub option_shorter : (octets : List ℕ) (f : ℕ × List ℕ × List ℕ) → option_at octets ≡ Ok (Some f) → length f.2 < length octets
unfolding option_at
option_shorter [] f e = absurd cc
option_shorter (id ∷ octets) f e = omega (arith, cond_shorter (eqb id END_OF_OPTIONS) id octets f e)

-- two ways to go on that agree behind the front
same_by : (front : Result Front InterfaceFault) (go on : List ℕ → Result (Option (List ℕ)) InterfaceFault) →
    ((f : ℕ × List ℕ × List ℕ) → front ≡ Ok (Some f) → go f.2 ≡ on f.2) → data_by front go ≡ data_by front on
same_by (Err e) go on h = refl
same_by (Ok None) go on h = refl
same_by (Ok (Some f)) go on h = ap (λ (r : Result (Option (List ℕ)) InterfaceFault). cond (eqb f.0 USER_DATA) (Ok (Some f.1)) r) (h f refl)

enough : (n m : ℕ) (octets : List ℕ) → length octets ≤ n → length octets ≤ m → data_within n octets ≡ data_within m octets
unfolding option_at
enough zero zero octets le le' = refl
enough zero (suc m) [] le le' = refl
enough zero (suc m) (x ∷ octets) le le' = absurd (omega arith)
enough (suc n) zero [] le le' = refl
enough (suc n) zero (x ∷ octets) le le' = absurd (omega arith)
enough (suc n) (suc m) octets le le' =
    same_by (option_at octets) (data_within n) (data_within m)
    (λ f e. let lt = option_shorter octets f e in enough n m f.2 (omega arith) (omega arith))

pub data_front : (octets : List ℕ) (front : Result Front InterfaceFault) → option_at octets ≡ front → data_in octets ≡ data_by front data_in
unfolding data_in option_at
data_front [] front e = ap (λ r. data_by r (λ rest. data_within (length rest) rest)) e
data_front (x ∷ octets) front e =
    same_by (option_at (x ∷ octets)) (data_within (length octets)) (λ rest. data_within (length rest) rest)
    (λ f is. let lt = option_shorter (x ∷ octets) f is in enough (length octets) (length f.2) f.2 (omega arith) (omega arith))
    ∙ ap (λ r. data_by r (λ rest. data_within (length rest) rest)) e

-- what the loop keeps
pub data_kept : (octets : List ℕ) (front : Result Front InterfaceFault)
    (whole : Result (Option (List ℕ)) InterfaceFault) → front ≡ option_at octets → data_in octets ≡ whole →
    data_by front data_in ≡ whole
data_kept octets front whole e so_far = sym (data_front octets front (sym e)) ∙ so_far

pub data_here : (id : ℕ) (value rest octets : List ℕ) (whole : Result (Option (List ℕ)) InterfaceFault) →
    Ok (Some (id, value, rest)) ≡ option_at octets → data_in octets ≡ whole → id ≡ USER_DATA → Ok (Some value) ≡ whole
data_here id value rest octets whole e so_far is =
    ap (λ b. cond b (Ok (Some value)) (data_in rest)) (sym (eq-eqb id USER_DATA is)) ∙ data_kept octets (Ok (Some (id, value, rest))) whole e so_far

pub data_on : (id : ℕ) (value rest octets : List ℕ) (whole : Result (Option (List ℕ)) InterfaceFault) →
    Ok (Some (id, value, rest)) ≡ option_at octets → data_in octets ≡ whole → id ≢ USER_DATA → data_in rest ≡ whole
data_on id value rest octets whole e so_far is =
    ap (λ b. cond b (Ok (Some value)) (data_in rest)) (sym (ne_eqb id USER_DATA is)) ∙ data_kept octets (Ok (Some (id, value, rest))) whole e so_far
