-- SPDX-License-Identifier: MIT OR Apache-2.0
-- One station of a world changes, or one channel.
use Rattle.world_laws.proofs.Prelude.{◌≡◌, ◌≢◌, ◌⊎◌, inl, inr, ℕ, suc, zero, ◌-◌, ◌==◌, ◌&&◌, nat_eq, Bool, true, false, List, [], ◌∷◌}
use Rattle.world_laws.proofs.Prelude.{get_or, set, refl, sym, ap, ◌∙◌, cases_Bool, eqb-false, eqb-true, eq-eqb, Place, BaseState}
use Rattle.world_laws.proofs.Prelude.{Actors, Spot, base_of, new_spot, no_station, spot_at, station_of, with_base, with_spot, less_one}
use Rattle.world_model.specs.World.{Station}
use Rattle.world_laws.proofs.Spots.{set-apart, set-same}

set_cases : {X : Type 0} (d : X) (xs : List X) (k j : ℕ) (a : X) →
    ((get_or (set xs k a) j d ≡ a) × (get_or xs j d ≡ get_or xs k d)) ⊎ (get_or (set xs k a) j d ≡ get_or xs j d)
set_cases d (x ∷ xs) zero zero a = inl (refl, refl)
set_cases d (x ∷ xs) (suc k) (suc j) a = set_cases d xs k j a
set_cases d _ _ _ a = inr refl

set_here : {X : Type 0} (d : X) (xs : List X) (k : ℕ) (a : X) → (get_or (set xs k a) k d ≡ a) ⊎ (get_or (set xs k a) k d ≡ d)
set_here d [] k a = inr refl
set_here d (x ∷ xs) zero a = inl refl
set_here d (x ∷ xs) (suc k) a = set_here d xs k a

-- an end is the new one, or as it was
pub base_cases : (u : Actors) (n m : ℕ) (base : BaseState) →
    ((base_of (with_base n base u) m ≡ base) × (base_of u m ≡ base_of u n)) ⊎ (base_of (with_base n base u) m ≡ base_of u m)
base_cases u n m base = elim (set_cases no_station u.stations (n - 1) (m - 1) (record (station_of u n) { base = base })) [
  | inl here ↦ inl (ap (λ (s : Station). s.base) here.0, ap (λ (s : Station). s.base) here.1)
  | inr same ↦ inr (ap (λ (s : Station). s.base) same)
]

-- what doesn't change of an end
pub base-same : {X : Type 0} (f : BaseState → X) (u : Actors) (n m : ℕ) (base : BaseState) →
    f base ≡ f (base_of u n) →
    f (base_of (with_base n base u) m) ≡ f (base_of u m)
base-same f u n m base same = set-same (λ (s : Station). f s.base) u.stations no_station (n - 1) (m - 1) (record (station_of u n) { base = base }) same

-- a channel is the new one; where there is none, it is as a new one
pub spot_here : (u : Actors) (p : Place) (spot : Spot) →
    (spot_at (with_spot p spot u) p ≡ spot) ⊎ (spot_at (with_spot p spot u) p ≡ new_spot)
spot_here u p spot = elim (set_here no_station u.stations (p.station - 1) (record (station_of u p.station) { spots = set (station_of u p.station).spots p.number spot })) [
  | inr none ↦ inr (ap (λ (s : Station). get_or s.spots p.number new_spot) none)
  | inl there ↦ elim (set_here new_spot (station_of u p.station).spots p.number spot) [
    | inl hit ↦ inl (ap (λ (s : Station). get_or s.spots p.number new_spot) there ∙ hit)
    | inr miss ↦ inr (ap (λ (s : Station). get_or s.spots p.number new_spot) there ∙ miss)
  ]
]

-- the same place
abbrev pub is_place : Place → Place → Bool
is_place at p = (at.station == p.station) && (at.number == p.number)

pub spot-apart : (u : Actors) (p at : Place) (spot : Spot) →
    p.station ≢ 0 →
    at.station ≢ 0 →
    is_place at p ≡ false →
    spot_at (with_spot p spot u) at ≡ spot_at u at
spot-apart u p at spot p_is at_is other = elim (cases_Bool (nat_eq at.station p.station)) [
  | inr station ↦ ap (λ (s : Station). get_or s.spots at.number new_spot) (set-apart u.stations no_station (p.station - 1) (at.station - 1) _ (less_one at.station p.station at_is p_is (eqb-false at.station p.station station)))
  | inl station ↦
      set-same (λ (s : Station). get_or s.spots at.number new_spot) u.stations no_station (p.station - 1) (at.station - 1) (record (station_of u p.station) { spots = set (station_of u p.station).spots p.number spot })
      (set-apart (station_of u p.station).spots new_spot p.number at.number spot (λ same. impossible (sym (ap (λ (b : Bool). b && nat_eq at.number p.number) station ∙ eq-eqb at.number p.number same) ∙ other)))
] where
  impossible : true ≡ false → ⊥
  impossible h = absurd cc

pub same_place : (at p : Place) → is_place at p ≡ true → at ≡ p
same_place at p same = elim (cases_Bool (nat_eq at.station p.station)) [
  | inr other ↦ absurd (impossible (sym (ap (λ (b : Bool). b && nat_eq at.number p.number) other) ∙ same))
  | inl station ↦
      ap (λ (n : ℕ). record { station = n; number = at.number }) (eqb-true at.station p.station station)
      ∙ ap (λ (k : ℕ). record { station = p.station; number = k }) (eqb-true at.number p.number (sym (ap (λ (b : Bool). b && nat_eq at.number p.number) station) ∙ same))
] where
  impossible : false ≡ true → ⊥
  impossible h = absurd cc
