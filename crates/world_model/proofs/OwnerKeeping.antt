-- SPDX-License-Identifier: MIT OR Apache-2.0
-- A channel still agrees with an ownership when its station takes entries, and when its link
-- breaks.
use Rattle.world_model.proofs.Prelude.{◌≡◌, ◌≢◌, ℕ, ◌==◌, Bool, true, false, if◌then◌else◌, List, [], ◌∷◌, ◌++◌, map, Some, option_to_list}
use Rattle.world_model.proofs.Prelude.{refl, sym, ap, ◌∙◌, subst, append_assoc, eq-eqb, eqb-true, ne_eqb, AllByRecursion, flat_map}
use Rattle.world_model.proofs.Prelude.{result_ok, Sccp, Place, SWITCH_LINK, Controller, channel_state, ChannelState, InUse}
use Rattle.world_model.proofs.Prelude.{first_message, first_of_messages, Item, Rsl, hears, Event, BasePush, BaseDown, OutboxEntry, Tenure}
use Rattle.world_model.proofs.Prelude.{given, began, begins, active_all, due, first_of, pushed, station_item, switch_item, Actors, base_of}
use Rattle.world_model.proofs.Prelude.{is_active_at, is_up, outbox_of, spot_at}
use Rattle.ruled_relay.specs.declared.item.What.TheVariants as whats
use Rattle.world_model.specs.OwnerLines.{Agrees, AreFitting, IsOwed, IsOnItsWay, active_behind, asker, said, said_by, tenure_all, tenure_behind, to_arrive}
use Rattle.world_model.proofs.Heard.{Good, end_of}
use Rattle.world_model.proofs.OwnerLines.{fitting_behind, nothing_is_due, tenure-append}
use Rattle.world_model.proofs.Outboxes.{both_empty}
use Rattle.world_model.proofs.Piping.{active-append}
use Rattle.world_model.proofs.Soundness.{IsSound, sound_read}

-- ---- its station took entries; the controller did nothing

pub record TakesOn (at : Place) (w : Actors) (took : List OutboxEntry) (v : Actors) : Type 0 where
  pub outbox : outbox_of w at.station ≡ took ++ outbox_of v at.station
  pub active : is_active_at v at ≡ active_all at.number (is_active_at w at) took
  pub tenure : (spot_at v at).tenure ≡ tenure_all at.number (is_active_at w at) (spot_at w at).tenure took
  pub owed : to_arrive v at ≡ to_arrive w at
  pub controller : v.controller ≡ w.controller
  pub up : is_up v at.station ≡ is_up w at.station

still_active : (at : Place) (w v : Actors) (took : List OutboxEntry) → TakesOn at w took v → active_behind v at ≡ active_behind w at
still_active at w v took takes =
    ap (λ (b : Bool). active_all at.number b (outbox_of v at.station)) takes.active
    ∙ sym (active-append at.number (is_active_at w at) took (outbox_of v at.station))
    ∙ ap (active_all at.number (is_active_at w at)) (sym takes.outbox)

still_tenure : (at : Place) (w v : Actors) (took : List OutboxEntry) → TakesOn at w took v → tenure_behind v at ≡ tenure_behind w at
still_tenure at w v took takes = ap (λ (n : ℕ). record { at = at; number = n })
    (ap (λ (b : Bool). tenure_all at.number b (spot_at v at).tenure (outbox_of v at.station)) takes.active
    ∙ ap (λ (n : ℕ). tenure_all at.number (active_all at.number (is_active_at w at) took) n (outbox_of v at.station)) takes.tenure
    ∙ sym (tenure-append at.number (is_active_at w at) (spot_at w at).tenure took (outbox_of v at.station))
    ∙ ap (tenure_all at.number (is_active_at w at) (spot_at w at).tenure) (sym takes.outbox))

abbrev OwnIn : (Tenure → ℕ) → Actors → Place → Controller → Type 0
OwnIn owner v at c = (number mobile : ℕ) → hears c at.station ≡ true → channel_state c at ≡ InUse number → asker c number ≡ Some mobile
    → (is_up v at.station ≡ false → to_arrive v at ≡ [] → ⊥) → owner (tenure_behind v at) ≡ mobile

pub agrees_takes : (owner : Tenure → ℕ) (at : Place) (w v : Actors) (took : List OutboxEntry) →
    TakesOn at w took v →
    Agrees owner w at →
    Agrees owner v at
agrees_takes owner at w v took takes agrees = record {
  line = subst (λ (b : Bool). AreFitting owner at b (spot_at v at).tenure (outbox_of v at.station)) (sym takes.active)
      (subst (λ (n : ℕ). AreFitting owner at (active_all at.number (is_active_at w at) took) n (outbox_of v at.station)) (sym takes.tenure)
      (fitting_behind owner at (is_active_at w at) (spot_at w at).tenure took (outbox_of v at.station) (subst (AreFitting owner at (is_active_at w at) (spot_at w at).tenure) takes.outbox agrees.line)));
  way = subst (λ (c : Controller). hears c at.station ≡ true → IsOnItsWay v at (channel_state c at)) (sym takes.controller) (λ heard.
      let way = agrees.way heard in
      record {
        lost = way.lost;
        owed = subst (λ (xs : List Rsl). IsOwed at.number (channel_state w.controller at) (xs ++ way.lost)) (sym takes.owed) way.owed;
        all = λ up. way.all (sym takes.up ∙ up);
        active = λ up. still_active at w v took takes ∙ way.active (sym takes.up ∙ up);
      });
  own = subst (OwnIn owner v at) (sym takes.controller) (λ number mobile heard used asks reaches.
      ap owner (still_tenure at w v took takes) ∙ agrees.own number mobile heard used asks (λ down silent. reaches (takes.up ∙ down) (takes.owed ∙ silent)));
}

-- ---- its link breaks: of what was still on its way, what is in the inbox remains

pub record Loses (at : Place) (w v : Actors) : Type 0 where
  pub outbox : outbox_of v at.station ≡ []
  pub down : is_up v at.station ≡ false
  pub made : List Rsl
  pub owed : to_arrive w at ≡ to_arrive v at ++ (made ++ due at.number (is_active_at w at) (outbox_of w at.station))
  pub tenure : (spot_at v at).tenure ≡ (spot_at w at).tenure
  pub controller : v.controller ≡ w.controller

-- of a channel in use one acknowledgement arrives at most
pub one_at_most : (channel number : ℕ) (state : ChannelState) (all xs ys : List Rsl) →
    IsOwed channel state all →
    state ≡ InUse number →
    all ≡ xs ++ ys →
    xs ≢ [] →
    ys ≡ []
one_at_most channel number state all [] ys owed used is some = absurd (some refl)
one_at_most channel number (InUse n) (one ∷ []) (x ∷ xs) ys owed used is some = (both_empty xs ys (tail_same is)).1 where
  tail_same : {a b : Rsl} {others more : List Rsl} → a ∷ others ≡ b ∷ more → others ≡ more
  tail_same same = cc
one_at_most channel number (InUse n) (one ∷ two ∷ rest) (x ∷ xs) ys owed used is some = absurd (never owed refl) where
  never : {l : List Rsl} → IsOwed channel (InUse n) l → l ≡ one ∷ two ∷ rest → ⊥
  never began same = absurd cc
  never begins same = absurd cc
one_at_most channel number _ _ _ ys owed used is some = absurd cc

pub agrees_lost : (owner : Tenure → ℕ) (at : Place) (w v : Actors) → Loses at w v → Agrees owner w at → Agrees owner v at
agrees_lost owner at w v loses agrees = record {
  line = subst (AreFitting owner at (is_active_at v at) (spot_at v at).tenure) (sym loses.outbox) tt;
  way = subst (λ (c : Controller). hears c at.station ≡ true → IsOnItsWay v at (channel_state c at)) (sym loses.controller) (λ heard.
      let way = agrees.way heard in
      record {
        lost = rest ++ way.lost;
        owed = subst (IsOwed at.number (channel_state w.controller at)) (whole way.lost) way.owed;
        all = λ up. absurd (false_true (sym loses.down ∙ up));
        active = λ up. absurd (false_true (sym loses.down ∙ up));
      });
  own = subst (OwnIn owner v at) (sym loses.controller) (λ number mobile heard used asks reaches.
      let way = agrees.way heard in
      let gone : rest ++ way.lost ≡ [] = one_at_most at.number number (channel_state w.controller at) (to_arrive w at ++ way.lost) (to_arrive v at) (rest ++ way.lost) way.owed used (whole way.lost) (reaches loses.down) in
      let none : due at.number (is_active_at w at) (outbox_of w at.station) ≡ [] = (both_empty loses.made (due at.number (is_active_at w at) (outbox_of w at.station)) (sym (both_empty rest way.lost (sym gone)).0)).1 in
      ap (λ (n : ℕ). owner (record { at = at; number = n }))
      (ap (tenure_all at.number (is_active_at v at) (spot_at v at).tenure) loses.outbox ∙ loses.tenure ∙ sym (nothing_is_due at.number (is_active_at w at) (spot_at w at).tenure (outbox_of w at.station) none))
      ∙ agrees.own number mobile heard used asks (λ down silent. reaches loses.down (both_empty (to_arrive v at) rest (sym silent ∙ loses.owed)).0));
} where
  rest : List Rsl
  rest = loses.made ++ due at.number (is_active_at w at) (outbox_of w at.station)

  whole : (lost : List Rsl) → to_arrive w at ++ lost ≡ to_arrive v at ++ (rest ++ lost)
  whole lost = ap (λ (xs : List Rsl). xs ++ lost) loses.owed ∙ append_assoc (to_arrive v at) rest lost

  false_true : false ≡ true → ⊥
  false_true is = absurd cc

-- ---- the items that a station gives to the inbox bring its messages

read_item : (n : ℕ) (message : Rsl) → IsSound message → said n (station_item n message) ≡ message ∷ []
read_item n message sound = by (n == n) (eqb_refl n) where
  eqb_refl : (n : ℕ) → (n == n) ≡ true
  eqb_refl n = eq-eqb n n refl

  by : (b : Bool) → b ≡ true → (if b then said_by (station_item n message).what else []) ≡ message ∷ []
  by true is = ap (λ (r : _). option_to_list (result_ok r)) (sound_read message sound)
  by false is = absurd cc

other_item : (n : ℕ) (item : Item) → (item.source == n) ≡ false → said n item ≡ []
other_item n item other = ap (λ (b : Bool). if b then said_by item.what else []) other

pub said-pushed : (n : ℕ) (w : Actors) (event : Event) → n ≢ SWITCH_LINK → Good w → flat_map (said n) (pushed w event) ≡ given n w event
said-pushed n w (BasePush source) n_is good = by_source (source == SWITCH_LINK) refl where
  none_given : (source == n) ≡ false → given n w (BasePush source) ≡ []
  none_given other = ap (λ (b : Bool). if b then option_to_list (first_message (base_of w n)) else []) other

  of_switch : (made : List Sccp) → flat_map (said n) (map switch_item (first_of made)) ≡ []
  of_switch [] = refl
  of_switch (first ∷ others) = ap (λ (xs : List Rsl). xs ++ []) (other_item n (switch_item first) (ne_eqb SWITCH_LINK n (λ same. n_is (sym same))))

  own : (messages : List Rsl) →
      AllByRecursion IsSound messages →
      flat_map (said n) (map (station_item n) (option_to_list (first_of_messages messages))) ≡ option_to_list (first_of_messages messages)
  own [] all = refl
  own (first ∷ others) all = ap (λ (xs : List Rsl). xs ++ []) (read_item n first all.0)

  elsewhere : (source == n) ≡ false →
      (messages : List Rsl) →
      flat_map (said n) (map (station_item source) (option_to_list (first_of_messages messages))) ≡ []
  elsewhere other [] = refl
  elsewhere other (first ∷ others) = ap (λ (xs : List Rsl). xs ++ []) (other_item n (station_item source first) other)

  of_station : (b : Bool) →
      (source == n) ≡ b →
      flat_map (said n) (map (station_item source) (option_to_list (first_message (base_of w source)))) ≡ given n w (BasePush source)
  of_station true same =
      subst (λ (k : ℕ). flat_map (said n) (map (station_item k) (option_to_list (first_message (base_of w k)))) ≡ option_to_list (first_message (base_of w n))) (sym (eqb-true source n same)) (own (base_of w n).messages (end_of w n good).made)
      ∙ sym (ap (λ (b : Bool). if b then option_to_list (first_message (base_of w n)) else []) same)
  of_station false other = elsewhere other (base_of w source).messages ∙ sym (none_given other)

  by_source : (b : Bool) →
      (source == SWITCH_LINK) ≡ b →
      flat_map (said n) (if b then map switch_item (first_of w.switch_made) else map (station_item source) (option_to_list (first_message (base_of w source)))) ≡ given n w (BasePush source)
  by_source true is = of_switch w.switch_made ∙ sym (none_given (ne_eqb source n (λ same. n_is (sym same ∙ eqb-true source SWITCH_LINK is))))
  by_source false is = of_station (source == n) refl
said-pushed n w (BaseDown source) n_is good = by_link (is_up w source) where
  by_source : (b : Bool) → (if b then said_by whats.Down else []) ≡ []
  by_source true = refl
  by_source false = refl

  by_link : (b : Bool) → flat_map (said n) (if b then record { source = source; what = whats.Down } ∷ [] else []) ≡ []
  by_link true = ap (λ (xs : List Rsl). xs ++ []) (by_source (source == n))
  by_link false = refl
said-pushed n w _ n_is good = refl
