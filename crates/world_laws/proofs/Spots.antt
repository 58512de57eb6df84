-- SPDX-License-Identifier: MIT OR Apache-2.0
-- The channels of stations, when one of them changes.
use Rattle.world_laws.proofs.Prelude.{◌≡◌, ◌≢◌, ℕ, suc, zero, ◌-◌, ◌&&◌, nat_eq, Bool, true, false, List, [], ◌∷◌, get_or, set, refl, sym}
use Rattle.world_laws.proofs.Prelude.{ap, ◌∙◌, inl, inr, arith, cases_Bool, eqb-false, eq-eqb, Channel, Place, is_at, place_of, BaseState}
use Rattle.world_laws.proofs.Prelude.{Actors, Spot, new_spot, no_station, station_of, with_base, spot_at, with_spot, tenure_at}
use Rattle.world_laws.proofs.Prelude.{true≢false, spot_with_base}
use Rattle.world_model.specs.World.{Station}

-- ---- lists

-- what doesn't change at a place changes nowhere
pub set-same : {A X : Type 0} (f : A → X) (xs : List A) (d : A) (k j : ℕ) (a : A) →
    f a ≡ f (get_or xs k d) →
    f (get_or (set xs k a) j d) ≡ f (get_or xs j d)
set-same f (x ∷ xs) d zero zero a same = same
set-same f (x ∷ xs) d (suc k) (suc j) a same = set-same f xs d k j a same
set-same f _ d _ _ a same = refl

pub set-apart : {A : Type 0} (xs : List A) (d : A) (k j : ℕ) (a : A) → j ≢ k → get_or (set xs k a) j d ≡ get_or xs j d
set-apart (x ∷ xs) d zero zero a differs = absurd (differs refl)
set-apart (x ∷ xs) d (suc k) (suc j) a differs = set-apart xs d k j a (λ is. differs (ap suc is))
set-apart _ d _ _ a differs = refl

-- a place that doesn't have the value of none is there
pub set-there : {A X : Type 0} (f : A → X) (xs : List A) (d : A) (k : ℕ) (a : A) → f (get_or xs k d) ≢ f d → get_or (set xs k a) k d ≡ a
set-there f [] d k a differs = absurd (differs refl)
set-there f (x ∷ xs) d zero a differs = refl
set-there f (x ∷ xs) d (suc k) a differs = set-there f xs d k a differs

-- ---- an end changes

-- ---- a channel changes

-- what doesn't change of it
pub spot-same : {X : Type 0} (f : Spot → X) (u : Actors) (at : Place) (spot : Spot) (other : Place) →
    f spot ≡ f (spot_at u at) →
    f (spot_at (with_spot at spot u) other) ≡ f (spot_at u other)
spot-same f u at spot other same =
    set-same (λ (s : Station). f (get_or s.spots other.number new_spot)) u.stations no_station (at.station - 1) (other.station - 1) (record (station_of u at.station) { spots = set (station_of u at.station).spots at.number spot })
    (set-same f (station_of u at.station).spots new_spot at.number other.number spot same)

pub tenure_with_spot : (u : Actors) (at : Place) (spot : Spot) (other : Place) →
    spot.tenure ≡ (spot_at u at).tenure →
    tenure_at (with_spot at spot u) other ≡ tenure_at u other
tenure_with_spot u at spot other same = ap (λ (n : ℕ). record { at = other; number = n }) (spot-same (λ (s : Spot). s.tenure) u at spot other same)

pub tenure_with_base : (u : Actors) (station : ℕ) (base : BaseState) (at : Place) → tenure_at (with_base station base u) at ≡ tenure_at u at
tenure_with_base u station base at = ap (λ (s : Spot). record { at = at; number = s.tenure }) (spot_with_base station base u at)

-- another channel
pub spot-elsewhere : (u : Actors) (at : Place) (spot : Spot) (c : Channel) →
    at.station ≢ 0 →
    c.station ≢ 0 →
    is_at at c ≡ false →
    spot_at (with_spot at spot u) (place_of c) ≡ spot_at u (place_of c)
spot-elsewhere u at spot c at_is c_is differs =
    elim (cases_Bool (nat_eq at.station c.station)) [
      | inl here ↦
          set-same (λ (s : Station). get_or s.spots c.number new_spot) u.stations no_station (at.station - 1) (c.station - 1) (record (station_of u at.station) { spots = set (station_of u at.station).spots at.number spot })
          (set-apart (station_of u at.station).spots new_spot at.number c.number spot (λ is. number here (eq-eqb at.number c.number (sym is))))
      | inr other ↦ ap (λ (s : Station). get_or s.spots c.number new_spot) (set-apart u.stations no_station (at.station - 1) (c.station - 1) (record (station_of u at.station) { spots = set (station_of u at.station).spots at.number spot })
          (λ is. less (eqb-false at.station c.station other) is))
    ] where
      number : nat_eq at.station c.station ≡ true → nat_eq at.number c.number ≡ true → ⊥
      number one two = absurd (true≢false (sym (ap (λ (b : Bool). b && nat_eq at.number c.number) one ∙ two) ∙ differs))

      less : at.station ≢ c.station → c.station - 1 ≡ at.station - 1 → ⊥
      less differs is = differs (omega arith)

-- one whose station is there
pub spot-there : {X : Type 0} (f : Spot → X) (u : Actors) (at : Place) (spot : Spot) →
    f (spot_at u at) ≢ f new_spot →
    spot_at (with_spot at spot u) at ≡ spot
spot-there f u at spot differs =
    ap (λ (s : Station). get_or s.spots at.number new_spot) (set-there (λ (s : Station). f (get_or s.spots at.number new_spot)) u.stations no_station (at.station - 1) (record (station_of u at.station) { spots = set (station_of u at.station).spots at.number spot }) differs)
    ∙ set-there f (station_of u at.station).spots new_spot at.number spot differs
