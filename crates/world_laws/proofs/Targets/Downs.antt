-- SPDX-License-Identifier: MIT OR Apache-2.0
-- Where no command is on its way on a channel, none arrives there at an event in which the
-- controller does nothing.
use Rattle.world_laws.proofs.Prelude.{◌≡◌, ◌≢◌, inl, inr, ℕ, Bool, true, false, if◌then◌else◌, List, [], ◌∷◌, ◌++◌, Option, refl, sym, ap}
use Rattle.world_laws.proofs.Prelude.{◌∙◌, subst, cases_Bool, eq-eqb, flat_map-append, append-nil, flat_map, Place, place_at, BaseState}
use Rattle.world_laws.proofs.Prelude.{Event, Handle, Tick, AirMessage, OutboxEntry, Tenure, actors_after, outputs, put, taken, to_link}
use Rattle.world_laws.proofs.Prelude.{rsl_in, Actors, Link, Spot, is_up, outbox_of, spot_at, with_base, with_spot, up_right, both_empty}
use Rattle.world_laws.proofs.Prelude.{outbox-step, OutboxStep, breaks, spot_with_base, Respots, event-keeps, going_down, leading}
use Rattle.world_laws.proofs.Prelude.{leading_by, leading_from_air, leading_from_outbox, airs, asks_up, counts, down_by_break, is_left}
use Rattle.world_laws.proofs.Prelude.{short_up}
use Rattle.world_model.proofs.Outboxes.Step.{kept_order}
use Rattle.world_laws.proofs.Targets.Comings.{is_relays}
use Rattle.world_laws.proofs.Targets.Places.{is_place, same_place, spot-apart, spot_here}

-- ---- the air

abbrev pub NoAir : Place → Actors → Type 0
NoAir at w = flat_map leading_from_air (spot_at w at).air ≡ []

noair_based : (at : Place) (m : ℕ) (base : BaseState) (u : Actors) → NoAir at u → NoAir at (with_base m base u)
noair_based at m base u none = ap (λ (s : Spot). flat_map leading_from_air s.air) (spot_with_base m base u at) ∙ none

noair_spotted : (at p : Place) (spot : Spot) (u : Actors) →
    at.station ≢ 0 →
    p.station ≢ 0 →
    (at ≡ p → flat_map leading_from_air spot.air ≡ []) →
    NoAir at u →
    NoAir at (with_spot p spot u)
noair_spotted at p spot u at_is p_is here none = elim (cases_Bool (is_place at p)) [
  | inr miss ↦ ap (λ (s : Spot). flat_map leading_from_air s.air) (spot-apart u p at spot p_is at_is miss) ∙ none
  | inl hit ↦
      let is : at ≡ p = same_place at p hit in
      subst (λ (q : Place). NoAir q (with_spot p spot u)) (sym is) (elim (spot_here u p spot) [
        | inl now ↦ ap (λ (s : Spot). flat_map leading_from_air s.air) now ∙ here is
        | inr nowhere ↦ ap (λ (s : Spot). flat_map leading_from_air s.air) nowhere
      ])
]

-- ---- each event

behind_none : (first : AirMessage) (others : List AirMessage) →
    flat_map leading_from_air (first ∷ others) ≡ [] →
    flat_map leading_from_air others ≡ []
behind_none first others none = (both_empty (leading_from_air first) (flat_map leading_from_air others) (sym none)).1

first-none : (k : ℕ) (entries : List OutboxEntry) (first : OutboxEntry) (others : List OutboxEntry) →
    entries ≡ first ∷ others →
    flat_map (leading_from_outbox k) entries ≡ [] →
    leading_by k first.target (rsl_in first.out.frame) ≡ []
first-none k entries first others is none = (both_empty (leading_from_outbox k first) (flat_map (leading_from_outbox k) others) (sym (ap (flat_map (leading_from_outbox k)) (sym is) ∙ none))).0

-- the entry that is taken leads nowhere on the channel
respot_none : {w u : Actors} {event : Event} {p : Place} {spot : Spot} (at : Place) →
    flat_map (leading_from_outbox at.number) (outbox_of w at.station) ≡ [] →
    NoAir p u →
    at ≡ p →
    Respots w u event p spot →
    flat_map leading_from_air spot.air ≡ []
respot_none at outbox none is (short_up number tenure reached) = none
respot_none at outbox none is (down_by_break tenure first others reached pending) = behind_none first others (ap (flat_map leading_from_air) (sym pending) ∙ none)
respot_none at outbox none is (is_left number tenure reached) = refl
respot_none at outbox none is (counts number report tenure reached) = none
respot_none at outbox none is (asks_up station l answer taken) = none
respot_none {w} {u} at outbox none is (airs station d taken active) =
    let target : Option Tenure = taken.first.target in
    flat_map-append leading_from_air (spot_at u (place_at station d.channel)).air (record { message = d.l3; target = target } ∷ [])
    ∙ ap (λ (xs : List AirMessage). xs ++ (leading d.l3 target ++ [])) none
    ∙ append-nil (leading d.l3 target)
    ∙ sym (ap (λ (b : Bool). if b then leading d.l3 target else []) (eq-eqb d.channel at.number (ap (λ (q : Place). q.number) (sym is))))
    ∙ ap (leading_by at.number target) (sym taken.is)
    ∙ first-none at.number (outbox_of w at.station) taken.first taken.others (ap (λ (q : Place). outbox_of w q.station) is ∙ taken.pending) outbox

noair_step : (at : Place) (w : Actors) (event : Event) →
    at.station ≢ 0 →
    flat_map (leading_from_outbox at.number) (outbox_of w at.station) ≡ [] →
    NoAir at w →
    NoAir at (actors_after w event)
noair_step at w event at_is outbox = event-keeps (NoAir at) w event (record {
  puts = λ u number p q _ _ _ none. none;
  joins = λ number initial accepts _ none. none;
  tells = λ u n message _ _ none. noair_based at n _ u none;
  spots = λ u p spot p_is how none. noair_spotted at p spot u at_is p_is (λ is. respot_none at outbox (subst (λ (q : Place). NoAir q u) is none) is how) none;
  pops = λ station others _ none. none;
  activates = λ u s a taken _ none. emptied u s a.channel _ _ (up_right s w taken.up).0 refl none;
  releases = λ u s channel taken none. emptied u s channel _ _ (up_right s w taken.up).0 refl none;
}) (record {
  rest = λ u inbox controller switch made links none. none;
  next = λ source message _ none. noair_based at source _ w none;
  down = λ source _ _ none. noair_based at source _ w none;
}) where
  emptied : (u : Actors) (s channel : ℕ) (base : BaseState) (spot : Spot) →
      s ≢ 0 →
      spot.air ≡ [] →
      NoAir at u →
      NoAir at (with_spot (place_at s channel) spot (with_base s base u))
  emptied u s channel base spot s_is air none =
      noair_spotted at (place_at s channel) spot (with_base s base u) at_is s_is (λ _. ap (flat_map leading_from_air) air) (noair_based at s base u none)

-- ---- the outbox

no_outputs : (w : Actors) (e : Event) → is_relays e ≡ false → outputs w e ≡ []
no_outputs w Handle is = absurd cc
no_outputs w (Tick ms) is = absurd cc
no_outputs w _ is = refl

no_puts : (n : ℕ) (w : Actors) (event : Event) → is_relays event ≡ false → put n w event ≡ []
no_puts n w event other = by (is_up w n) where
  by : (b : Bool) → (if b then to_link n (outputs w event) else []) ≡ []
  by true = ap (to_link n) (no_outputs w event other)
  by false = refl

none_behind : (k : ℕ) (xs ys : List OutboxEntry) →
    flat_map (leading_from_outbox k) (xs ++ ys) ≡ [] →
    flat_map (leading_from_outbox k) ys ≡ []
none_behind k xs ys none = (both_empty (flat_map (leading_from_outbox k) xs) (flat_map (leading_from_outbox k) ys) (sym (sym (flat_map-append (leading_from_outbox k) xs ys) ∙ none))).1

pub none_down : (at : Place) (w : Actors) (event : Event) →
    at.station ≢ 0 →
    is_relays event ≡ false →
    going_down w at ≡ [] →
    going_down (actors_after w event) at ≡ []
none_down at w event at_is other none =
    let v : Actors = actors_after w event in
    let parts = both_empty (flat_map leading_from_air (spot_at w at).air) (flat_map (leading_from_outbox at.number) (outbox_of w at.station)) (sym none) in
    ap (λ (xs : List AirMessage). xs ++ flat_map (leading_from_outbox at.number) (outbox_of v at.station)) (noair_step at w event at_is parts.1 parts.0) ∙ by (outbox-step at.station w event) parts.1 where
      by : OutboxStep at.station w event (actors_after w event) →
          flat_map (leading_from_outbox at.number) (outbox_of w at.station) ≡ [] →
          flat_map (leading_from_outbox at.number) (outbox_of (actors_after w event) at.station) ≡ []
      by (kept_order up all) empty =
          none_behind at.number (taken at.station w event) (outbox_of (actors_after w event) at.station)
          (ap (flat_map (leading_from_outbox at.number)) (sym all ∙ ap (λ (es : List OutboxEntry). outbox_of w at.station ++ es) (no_puts at.station w event other) ∙ append-nil (outbox_of w at.station)) ∙ empty)
      by (breaks broken unput nobody) empty = ap (λ (l : Link). flat_map (leading_from_outbox at.number) l.outbox) broken
