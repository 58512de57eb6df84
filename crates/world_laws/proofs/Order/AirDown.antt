-- SPDX-License-Identifier: MIT OR Apache-2.0
-- The air of a channel remains empty if no DATA REQUEST for the channel is taken.
use Rattle.world_laws.proofs.Prelude.{◌≡◌, ◌≢◌, inl, inr, ℕ, false, List, [], ◌∷◌, refl, sym, ap, ◌∙◌, subst, cases_Bool, Place}
use Rattle.world_laws.proofs.Prelude.{SWITCH_LINK, place_at, BaseState, Event, BaseTakes, AirMessage, OutboxEntry, actors_after, Actors}
use Rattle.world_laws.proofs.Prelude.{Spot, outbox_of, spot_at, with_base, with_spot, up_right, spot_with_base, Respots, event-keeps}
use Rattle.world_laws.proofs.Prelude.{NoDataEntry, airs, asks_up, counts, down_by_break, is_left, short_up}
use Rattle.world_laws.proofs.Targets.Places.{is_place, same_place, spot-apart, spot_here}

module _ (at : Place) (at_is : at.station ≢ SWITCH_LINK) where
  abbrev Empty : Actors → Type 0
  Empty v = (spot_at v at).air ≡ []

  based : (n : ℕ) (base : BaseState) (u : Actors) → Empty u → Empty (with_base n base u)
  based n base u none = ap (λ (s : Spot). s.air) (spot_with_base n base u at) ∙ none

  spotted : (p : Place) (spot : Spot) (u : Actors) →
      p.station ≢ SWITCH_LINK →
      (at ≡ p → spot.air ≡ []) →
      (is_place at p ≡ false → Empty u) →
      Empty (with_spot p spot u)
  spotted p spot u p_is here other = elim (cases_Bool (is_place at p)) [
    | inl hit ↦
        let same : at ≡ p = same_place at p hit in
        subst (λ (q : Place). (spot_at (with_spot p spot u) q).air ≡ []) (sym same) (elim (spot_here u p spot) [
          | inl is ↦ ap (λ (s : Spot). s.air) is ∙ here same
          | inr none ↦ ap (λ (s : Spot). s.air) none
        ])
    | inr miss ↦ ap (λ (s : Spot). s.air) (spot-apart u p at spot p_is at_is miss) ∙ other miss
  ]

  same_air : (p : Place) (u : Actors) → Empty u → at ≡ p → (spot_at u p).air ≡ []
  same_air p u none same = ap (λ (q : Place). (spot_at u q).air) (sym same) ∙ none

  never_first : (w : Actors) (p : Place) (first : AirMessage) (others : List AirMessage) →
      Empty w →
      (spot_at w p).air ≡ first ∷ others →
      at ≡ p →
      others ≡ []
  never_first w p first others none is same = absurd (let both : first ∷ others ≡ [] = sym is ∙ same_air p w none same in cc)

  -- what the station takes then is no DATA REQUEST for the channel
  abbrev NoDataAt : Actors → Event → Type 0
  NoDataAt w event = (first : OutboxEntry) (others : List OutboxEntry) → event ≡ BaseTakes at.station → outbox_of w at.station ≡ first ∷ others → NoDataEntry at.number first

  -- none is added there
  respot_none : {w u : Actors} {event : Event} {p : Place} {spot : Spot} →
      NoDataAt w event →
      Empty u →
      at ≡ p →
      Respots w u event p spot →
      spot.air ≡ []
  respot_none {u = u} no_data none same (short_up number tenure reached) = same_air tenure.at u none same
  respot_none {u = u} no_data none same
      (down_by_break tenure first others reached pending) = never_first u tenure.at first others none pending same
  respot_none no_data none same (is_left number tenure reached) = refl
  respot_none {u = u} no_data none same (counts number report tenure reached) = same_air tenure.at u none same
  respot_none {u = u} no_data none same (asks_up station l answer taken) = same_air (place_at station l.channel) u none same
  respot_none {w} no_data none same (airs station d taken active) =
      let no = no_data taken.first taken.others (ap (λ (p : Place). BaseTakes p.station) (sym same)) (ap (λ (p : Place). outbox_of w p.station) same ∙ taken.pending) in
      absurd (no d taken.is (ap (λ (p : Place). p.number) (sym same)))

  -- ---- each event

  pub air_step : (w : Actors) (event : Event) → NoDataAt w event → Empty w → Empty (actors_after w event)
  air_step w event no_data = event-keeps Empty w event (record {
    puts = λ u number p q _ _ _ none. none;
    joins = λ number initial accepts _ none. none;
    tells = λ u n message _ _ none. based n _ u none;
    spots = λ u p spot p_is how none. spotted p spot u p_is (λ same. respot_none no_data none same how) (λ _. none);
    pops = λ station others _ none. none;
    activates = λ u s a taken _ none. spotted (place_at s a.channel) _ (with_base s _ u) (up_right s w taken.up).0 (λ _. refl) (λ _. based s _ u none);
    releases = λ u s channel taken none. spotted (place_at s channel) _ (with_base s _ u) (up_right s w taken.up).0 (λ _. refl) (λ _. based s _ u none);
  }) (record {
    rest = λ u inbox controller switch made links none. none;
    next = λ source message _ none. based source _ w none;
    down = λ source _ _ none. based source _ w none;
  })
