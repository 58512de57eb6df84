-- SPDX-License-Identifier: MIT OR Apache-2.0
-- Nothing is in the air of a channel that isn't active.
use Rattle.world_laws.proofs.Prelude.{◌≡◌, ◌≢◌, inl, inr, ℕ, zero, suc, ◌+◌, ◌-◌, ◌==◌, ◌&&◌, ◌||◌, not, nat_eq, Bool, true, false, cond}
use Rattle.world_laws.proofs.Prelude.{List, [], ◌∷◌, ◌++◌, filter, get_or, replicate, refl, sym, ap, ◌∙◌, subst, cases_Bool, eqb-false}
use Rattle.world_laws.proofs.Prelude.{eqb-true, Place, SWITCH_LINK, CHANNEL_NUMBERS, place_at, BaseState, after_activate, after_release}
use Rattle.world_laws.proofs.Prelude.{after_tell, is_active, Rsl, CellParameters, Parameters, Event, actors_after, Actors, Spot, base_of}
use Rattle.world_laws.proofs.Prelude.{is_active_at, new_actors, new_spot, no_station, spot_at, stations_from, with_base, with_spot}
use Rattle.world_laws.proofs.Prelude.{base-elsewhere, base_with_spot, reached_up, up_right, spot_with_base, true≢false, Respots}
use Rattle.world_laws.proofs.Prelude.{event-keeps, airs, asks_up, counts, down_by_break, is_left, short_up}
use Rattle.world_laws.proofs.Targets.Places.{base_cases, is_place, same_place, spot-apart, spot_here}

abbrev pub IdleAir : Actors → Type 0
IdleAir w = (at : Place) → at.station ≢ SWITCH_LINK → is_active_at w at ≡ false → (spot_at w at).air ≡ []

-- ---- what is active

any_front : (k : ℕ) (xs ys : List ℕ) → is_active (xs ++ ys) k ≡ false → is_active xs k ≡ false
any_front k [] ys none = refl
any_front k (x ∷ xs) ys none = by (x == k) (any_front k xs ys) none where
  by : (b : Bool) →
      (is_active (xs ++ ys) k ≡ false → is_active xs k ≡ false) →
      b || is_active (xs ++ ys) k ≡ false →
      b || is_active xs k ≡ false
  by true rest is = absurd cc
  by false rest is = rest is

any_filter : (c k : ℕ) (xs : List ℕ) → (k == c) ≡ false → is_active (filter (λ x. not (x == c)) xs) k ≡ is_active xs k
any_filter c k [] other = refl
any_filter c k (x ∷ xs) other = by (x == c) refl (any_filter c k xs other) where
  by : (b : Bool) →
      (x == c) ≡ b →
      is_active (filter (λ y. not (y == c)) xs) k ≡ is_active xs k →
      is_active (cond (not b) (x ∷ filter (λ y. not (y == c)) xs) (filter (λ y. not (y == c)) xs)) k ≡ (x == k) || is_active xs k
  by false is rest = ap (λ (b : Bool). (x == k) || b) rest
  by true is rest = rest ∙ sym (ap (λ (b : Bool). b || is_active xs k) (no_hit (x == k) refl)) where
    no_hit : (b : Bool) → (x == k) ≡ b → (x == k) ≡ false
    no_hit false miss = miss
    no_hit true hit = absurd (eqb-false k c other (sym (eqb-true x k hit) ∙ eqb-true x c is))

-- ---- an end changes

idle_based : (n : ℕ) (base : BaseState) (u : Actors) →
    ((k : ℕ) → is_active base.active k ≡ false → is_active (base_of u n).active k ≡ false) →
    IdleAir u →
    IdleAir (with_base n base u)
idle_based n base u fewer all at at_is idle =
    ap (λ (s : Spot). s.air) (spot_with_base n base u at)
    ∙ all at at_is (elim (base_cases u n at.station base) [
      | inl here ↦ ap (λ (b : BaseState). is_active b.active at.number) here.1 ∙ fewer at.number (sym (ap (λ (b : BaseState). is_active b.active at.number) here.0) ∙ idle)
      | inr same ↦ sym (ap (λ (b : BaseState). is_active b.active at.number) same) ∙ idle
    ])

idle_told : (n : ℕ) (message : Rsl) (u : Actors) → IdleAir u → IdleAir (with_base n (after_tell (base_of u n) message) u)
idle_told n message u all = idle_based n (after_tell (base_of u n) message) u (λ k is. is) all

-- ---- a channel changes

idle_spot : (p : Place) (spot : Spot) (u : Actors) →
    p.station ≢ SWITCH_LINK →
    (is_active_at u p ≡ false → spot.air ≡ []) →
    ((at : Place) → at.station ≢ SWITCH_LINK → is_place at p ≡ false → is_active_at u at ≡ false → (spot_at u at).air ≡ []) →
    IdleAir (with_spot p spot u)
idle_spot p spot u p_is here others at at_is idle =
    let was : is_active_at u at ≡ false = sym (ap (λ (b : BaseState). is_active b.active at.number) (base_with_spot p spot u at.station)) ∙ idle in
    elim (cases_Bool (is_place at p)) [
      | inl hit ↦
          let same : at ≡ p = same_place at p hit in
          subst (λ (q : Place). (spot_at (with_spot p spot u) q).air ≡ []) (sym same) (elim (spot_here u p spot) [
            | inl is ↦ ap (λ (s : Spot). s.air) is ∙ here (subst (λ (q : Place). is_active_at u q ≡ false) same was)
            | inr none ↦ ap (λ (s : Spot). s.air) none
          ])
      | inr miss ↦ ap (λ (s : Spot). s.air) (spot-apart u p at spot p_is at_is miss) ∙ others at at_is miss was
    ]

-- with the same air, or none, or where it is active
idle_spotted : (p : Place) (spot : Spot) (u : Actors) →
    p.station ≢ SWITCH_LINK →
    (is_active_at u p ≡ false → spot.air ≡ []) →
    IdleAir u →
    IdleAir (with_spot p spot u)
idle_spotted p spot u p_is here all = idle_spot p spot u p_is here (λ at at_is _ idle. all at at_is idle)

-- where a channel isn't active, nothing is sent into its air, and nothing was there
respot_idle : {w u : Actors} {event : Event} {at : Place} {spot : Spot} →
    Respots w u event at spot →
    at.station ≢ SWITCH_LINK →
    IdleAir u →
    is_active_at u at ≡ false →
    spot.air ≡ []
respot_idle (short_up number tenure reached) at_is all idle = all tenure.at at_is idle
respot_idle {u = u} (down_by_break tenure first others reached pending) at_is all idle = absurd (true≢false (sym (reached_up u tenure reached).1 ∙ idle))
respot_idle (is_left number tenure reached) at_is all idle = refl
respot_idle (counts number report tenure reached) at_is all idle = all tenure.at at_is idle
respot_idle (airs station d taken active) at_is all idle = absurd (true≢false (sym active ∙ idle))
respot_idle (asks_up station l answer taken) at_is all idle = all (place_at station l.channel) at_is idle

-- a release leaves what is active elsewhere
was_idle : (s channel : ℕ) (u : Actors) (at : Place) →
    s ≢ SWITCH_LINK →
    at.station ≢ SWITCH_LINK →
    is_place at (place_at s channel) ≡ false →
    is_active_at (with_base s (after_release (base_of u s) channel) u) at ≡ false →
    is_active_at u at ≡ false
was_idle s channel u at s_is at_is miss idle = elim (cases_Bool (nat_eq at.station s)) [
  | inr other ↦ sym (ap (λ (b : BaseState). is_active b.active at.number) (base-elsewhere u at.station s (after_release (base_of u s) channel) at_is s_is (eqb-false at.station s other))) ∙ idle
  | inl station ↦ elim (base_cases u s at.station (after_release (base_of u s) channel)) [
    | inr same ↦ sym (ap (λ (b : BaseState). is_active b.active at.number) same) ∙ idle
    | inl here ↦
        ap (λ (b : BaseState). is_active b.active at.number) here.1
        ∙ sym (any_filter channel at.number (base_of u s).active (sym (ap (λ (b : Bool). b && nat_eq at.number channel) station) ∙ miss))
        ∙ sym (ap (λ (b : BaseState). is_active b.active at.number) here.0) ∙ idle
  ]
]

-- ---- each event

pub idle_step : (w : Actors) (event : Event) → IdleAir w → IdleAir (actors_after w event)
idle_step w event = event-keeps IdleAir w event (record {
  puts = λ u number p q _ _ _ all. all;
  joins = λ number initial accepts _ all. all;
  tells = λ u n message _ _ all. idle_told n message u all;
  spots = λ u at spot at_is how all. idle_spotted at spot u at_is (respot_idle how at_is all) all;
  pops = λ station others _ all. all;
  activates = λ u s a taken _ all.
      let base : BaseState = after_activate (base_of u s) a.channel in
      idle_spotted (place_at s a.channel) _ (with_base s base u) (up_right s w taken.up).0 (λ _. refl)
      (idle_based s base u (λ k is. any_front k (base_of u s).active (a.channel ∷ []) is) all);
  releases = λ u s channel taken all.
      let base : BaseState = after_release (base_of u s) channel in
      let s_is = (up_right s w taken.up).0 in
      idle_spot (place_at s channel) _ (with_base s base u) s_is (λ _. refl)
      (λ at at_is miss idle. ap (λ (x : Spot). x.air) (spot_with_base s base u at) ∙ all at at_is (was_idle s channel u at s_is at_is miss idle));
}) (record {
  rest = λ u inbox controller switch made links all. all;
  next = λ source message _ all. idle_based source _ w (λ k is. is) all;
  down = λ source _ _ all. idle_based source _ w (λ k is. is) all;
})

-- ---- at the beginning

new_air : (count k : ℕ) → (get_or (replicate count new_spot) k new_spot).air ≡ []
new_air zero k = refl
new_air (suc count) zero = refl
new_air (suc count) (suc k) = new_air count k

new_airs : (from : ℕ) (cells : List CellParameters) (j k : ℕ) →
    (get_or (get_or (stations_from from cells) j no_station).spots k new_spot).air ≡ []
new_airs from [] j k = refl
new_airs from (cell ∷ cells) zero k = new_air CHANNEL_NUMBERS k
new_airs from (cell ∷ cells) (suc j) k = new_airs (from + 1) cells j k

pub idle_air_new : (settings : Parameters) → IdleAir (new_actors settings)
idle_air_new settings at at_is idle = new_airs 1 settings.cells (at.station - 1) at.number
