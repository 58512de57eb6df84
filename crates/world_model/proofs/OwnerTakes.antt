-- SPDX-License-Identifier: MIT OR Apache-2.0
-- Channels still agree with an ownership when a station takes an entry.
use Rattle.world_model.proofs.Prelude.{◌≡◌, ◌≢◌, ℕ, ◌+◌, ◌-◌, ◌<◌, ◌==◌, ◌&&◌, not, nat_eq, Bool, true, false, if◌then◌else◌, is_some, List}
use Rattle.world_model.proofs.Prelude.{[], ◌∷◌, ◌++◌, length, slice_index_or, unwrap_or, Option, Some, None, refl, sym, ap, ◌∙◌, subst, inl}
use Rattle.world_model.proofs.Prelude.{inr, cases_Bool, eqb-true, eqb-false, ne_eqb, length-set, Place, place_at, CHANNEL_NUMBERS}
use Rattle.world_model.proofs.Prelude.{rr_reading, BaseState, after_activate, after_release, after_tell, is_active, Busy, Activation, Rsl}
use Rattle.world_model.proofs.Prelude.{DataRequest, EstablishRequest, ImmediateAssignCommand, ChannelActivation, RfChannelRelease}
use Rattle.world_model.proofs.Prelude.{get_or-set_same, BaseTakes, MAX_TENURE, OutboxEntry, Tenure, actors_after, first_of, taken, accepts}
use Rattle.world_model.proofs.Prelude.{activated, activated_unless, link_answer, mobile_on, new_tenure, rsl_in, took, after_base_takes}
use Rattle.world_model.proofs.Prelude.{Actors, Spot, Station, base_of, is_active_at, new_spot, no_station, outbox_of, spot_at, station_of}
use Rattle.world_model.proofs.Prelude.{tenure_at, with_base, with_outbox, with_spot}
use Rattle.world_model.specs.Life.{event_after}
use Rattle.world_model.specs.OwnerLines.{Agrees, AreFitting, FitsTenure, tenure_all, tenure_then}
use Rattle.world_model.proofs.Heard.{Good}
use Rattle.world_model.proofs.Honesty.{up_right}
use Rattle.world_model.proofs.Leads.{OfTaken, Seats, after_taken, assigned-leads, base_takes_leads, took-leads, unless_last_leads}
use Rattle.world_model.proofs.OwnerEvents.{IsThere, Rests, rests_keep}
use Rattle.world_model.proofs.OwnerTenures.{HaveSpots, set_spotted, spotted_at}
use Rattle.world_model.proofs.Ticketing.{spot_all, spot_with_base}

-- ---- stations have all channels still

spots_based : (u : Actors) (n : ℕ) (base : BaseState) → HaveSpots u → HaveSpots (with_base n base u)
spots_based u n base all = set_spotted u.stations (n - 1) (record (station_of u n) { base = base }) refl all

spots_spotted : (u : Actors) (p : Place) (spot : Spot) → HaveSpots u → HaveSpots (with_spot p spot u)
spots_spotted u p spot all = set_spotted u.stations (p.station - 1) _ (length-set (station_of u p.station).spots p.number spot) all

took_spots : (station : ℕ) (target : Option Tenure) (o : Option Rsl) (u : Actors) →
    HaveSpots u →
    OfTaken HaveSpots (took station target o u)
took_spots station target o u all = took-leads HaveSpots station target o u (record {
  nothing = all;
  activates = λ channel _. spots_spotted (with_base station (after_activate (base_of u station) channel) u) (place_at station channel) _ (spots_based u station (after_activate (base_of u station) channel) all);
  seats = λ p number channel _ _. all;
  airs = λ channel message _. spots_spotted u (place_at station channel) _ all;
  answers = λ answer channel.
      let middle : Actors = with_spot (place_at station channel) (record (spot_at u (place_at station channel)) { sapi_three_up = answer }) u in
      spots_based middle station (after_tell (base_of middle station) (link_answer answer channel)) (spots_spotted u (place_at station channel) _ all);
  releases = λ channel. spots_spotted (with_base station (after_release (base_of u station) channel) u) (place_at station channel) _ (spots_based u station (after_release (base_of u station) channel) all);
})

pub takes_spots : (w : Actors) (station : ℕ) → HaveSpots w → HaveSpots (actors_after w (BaseTakes station))
unfolding event_after
takes_spots w station all = after_taken HaveSpots (after_base_takes w station) w
    (base_takes_leads HaveSpots w station (λ first others up pending. took_spots station first.target (rsl_in first.out.frame) (with_outbox station others w) all)) all

-- ---- the number of a tenure

-- a channel that is there
spot-here : (u : Actors) (p : Place) (spot : Spot) →
    p.station - 1 < length u.stations →
    p.number < length (station_of u p.station).spots →
    spot_at (with_spot p spot u) p ≡ spot
spot-here u p spot there few =
    ap (λ (s : Station). slice_index_or s.spots p.number new_spot) (get_or-set_same u.stations (p.station - 1) (record (station_of u p.station) { spots = _ }) no_station there)
    ∙ get_or-set_same (station_of u p.station).spots p.number spot new_spot few

-- all tenures of channels of other numbers or stations are as they were
abbrev IsSameTenure : Actors → Place → Spot → Type 0
IsSameTenure u at spot = spot.tenure ≡ (spot_at u at).tenure

unfoldable pub HasTenure : ℕ → Actors → Place → Option Rsl → Actors → Type 0
HasTenure n u at o v = (spot_at v at).tenure ≡ tenure_then at.number (is_active_at u at) (spot_at u at).tenure o

same_tenure : (n : ℕ) (u : Actors) (p at : Place) (spot : Spot) →
    p.station ≢ 0 →
    at.station ≢ 0 →
    spot.tenure ≡ (spot_at u p).tenure →
    (spot_at (with_spot p spot u) at).tenure ≡ (spot_at u at).tenure
same_tenure n u p at spot p_is at_is same = spot_all (IsSameTenure u) u p spot p_is same (λ q q_is. refl) at at_is

based_tenure : (n : ℕ) (base : BaseState) (u : Actors) (at : Place) → (spot_at (with_base n base u) at).tenure ≡ (spot_at u at).tenure
based_tenure n base u at = ap (λ (s : Spot). s.tenure) (spot_with_base n base u at)

-- a channel of a station that is there, whatever its end
here_tenure : (u : Actors) (n k : ℕ) (base : BaseState) →
    n - 1 < length u.stations →
    HaveSpots u →
    k < CHANNEL_NUMBERS →
    (spot_at (with_spot (place_at n k) (new_tenure (spot_at u (place_at n k))) (with_base n base u)) (place_at n k)).tenure ≡ (spot_at u (place_at n k)).tenure + 1
here_tenure u n k base there all few =
    let u2 : Actors = with_base n base u in
    let there2 : n - 1 < length u2.stations = subst (λ (l : ℕ). n - 1 < l) (sym (length-set u.stations (n - 1) _)) there in
    let spots2 : length (station_of u2 n).spots ≡ CHANNEL_NUMBERS = spotted_at u2.stations (n - 1) there2 (spots_based u n base all) in
    ap (λ (s : Spot). s.tenure) (spot-here u2 (place_at n k) (new_tenure (spot_at u (place_at n k))) there2 (subst (λ (l : ℕ). k < l) (sym spots2) few))

begun_tenure : (n k : ℕ) (u : Actors) (a : Activation) →
    n ≢ 0 →
    n - 1 < length u.stations →
    HaveSpots u →
    (a.channel ≡ k → k < CHANNEL_NUMBERS) →
    is_active (base_of u n).active a.channel ≡ false →
    HasTenure n u (place_at n k) (Some (ChannelActivation a)) (activated_unless None (place_at n a.channel) u)
unfolding HasTenure
begun_tenure n k u a n_is there all few idle =
    elim (cases_Bool (nat_eq a.channel k)) [
      | inl hit ↦
          let same : a.channel ≡ k = eqb-true a.channel k hit in
          let off : is_active_at u (place_at n k) ≡ false = ap (is_active (base_of u n).active) (sym same) ∙ idle in
          subst (λ (c : ℕ). (spot_at (with_spot (place_at n c) (new_tenure (spot_at u (place_at n c))) (with_base n base u)) (place_at n k)).tenure ≡ (spot_at u (place_at n k)).tenure + 1) (sym same) (here_tenure u n k base there all (few same))
          ∙ sym (ap (λ (b : Bool). if b && not (is_active_at u (place_at n k)) then (spot_at u (place_at n k)).tenure + 1 else (spot_at u (place_at n k)).tenure) hit
          ∙ ap (λ (b : Bool). if true && not b then (spot_at u (place_at n k)).tenure + 1 else (spot_at u (place_at n k)).tenure) off)
      | inr miss ↦
          spot_all (λ (q : Place) (s : Spot). (q.number == a.channel) ≡ false → s.tenure ≡ (spot_at u q).tenure) (with_base n base u) (place_at n a.channel) (new_tenure (spot_at u (place_at n a.channel))) n_is
          (λ other. absurd (self other)) (λ q q_is other. based_tenure n base u q) (place_at n k) n_is (ne_eqb k a.channel (λ same. eqb-false a.channel k miss (sym same)))
          ∙ sym (ap (λ (b : Bool). if b && not (is_active_at u (place_at n k)) then (spot_at u (place_at n k)).tenure + 1 else (spot_at u (place_at n k)).tenure) miss)
    ] where
      base : BaseState
      base = after_activate (base_of u n) a.channel

      self : (a.channel == a.channel) ≡ false → ⊥
      self other = eqb-false a.channel a.channel other refl

took_tenure : (n k : ℕ) (target : Option Tenure) (o : Option Rsl) (u : Actors) →
    n ≢ 0 →
    n - 1 < length u.stations →
    HaveSpots u →
    ((a : Activation) → o ≡ Some (ChannelActivation a) → a.channel ≡ k → k < CHANNEL_NUMBERS) →
    OfTaken (HasTenure n u (place_at n k) o) (took n target o u)
unfolding OfTaken Seats HasTenure
took_tenure n k target (Some (ChannelActivation a)) u n_is there all few =
    unless_last_leads (HasTenure n u (place_at n k) (Some (ChannelActivation a))) ((spot_at u (place_at n a.channel)).tenure == MAX_TENURE) (activated (place_at n a.channel) u) (by_activity (is_active (base_of u n).active a.channel) refl) where
      by_activity : (b : Bool) →
          is_active (base_of u n).active a.channel ≡ b →
          HasTenure n u (place_at n k) (Some (ChannelActivation a)) (activated_unless (if b then Some Busy else None) (place_at n a.channel) u)
      by_activity false idle = begun_tenure n k u a n_is there all (few a refl) idle
      by_activity true busy = elim (cases_Bool (nat_eq a.channel k)) [
        | inl hit ↦
            let on : is_active_at u (place_at n k) ≡ true = ap (is_active (base_of u n).active) (sym (eqb-true a.channel k hit)) ∙ busy in
            sym (ap (λ (b : Bool). if b && not (is_active_at u (place_at n k)) then (spot_at u (place_at n k)).tenure + 1 else (spot_at u (place_at n k)).tenure) hit
            ∙ ap (λ (b : Bool). if true && not b then (spot_at u (place_at n k)).tenure + 1 else (spot_at u (place_at n k)).tenure) on)
        | inr miss ↦ sym (ap (λ (b : Bool). if b && not (is_active_at u (place_at n k)) then (spot_at u (place_at n k)).tenure + 1 else (spot_at u (place_at n k)).tenure) miss)
      ]
took_tenure n k target (Some (ImmediateAssignCommand i)) u n_is there all few =
    assigned-leads (HasTenure n u (place_at n k) (Some (ImmediateAssignCommand i))) n u (rr_reading i.information) refl (λ p number channel _ _. refl)
took_tenure n k target (Some (DataRequest d)) u n_is there all few = by_activity (is_active_at u (place_at n d.channel)) where
  by_activity : (b : Bool) →
      HasTenure n u (place_at n k) (Some (DataRequest d)) (if b then with_spot (place_at n d.channel) (record (spot_at u (place_at n d.channel)) { air = (spot_at u (place_at n d.channel)).air ++ record { message = d.l3; target = target } ∷ [] }) u else u)
  by_activity true = same_tenure n u (place_at n d.channel) (place_at n k) _ n_is n_is refl
  by_activity false = refl
took_tenure n k target (Some (EstablishRequest l)) u n_is there all few =
    let answer : Bool = is_active_at u (place_at n l.channel) && accepts (mobile_on u (tenure_at u (place_at n l.channel))) in
    let middle : Actors = with_spot (place_at n l.channel) (record (spot_at u (place_at n l.channel)) { sapi_three_up = answer }) u in
    based_tenure n (after_tell (base_of middle n) (link_answer answer l.channel)) middle (place_at n k) ∙ same_tenure n u (place_at n l.channel) (place_at n k) _ n_is n_is refl
took_tenure n k target (Some (RfChannelRelease number)) u n_is there all few =
    let middle : Actors = with_base n (after_release (base_of u n) number) u in
    same_tenure n middle (place_at n number) (place_at n k) _ n_is n_is (sym (based_tenure n (after_release (base_of u n) number) u (place_at n number))) ∙ based_tenure n (after_release (base_of u n) number) u (place_at n k)
took_tenure n k target _ u n_is there all few = refl

-- another station takes an entry
unfoldable pub OtherTenure : Actors → Place → Actors → Type 0
OtherTenure w at v = (spot_at v at).tenure ≡ (spot_at w at).tenure

other_tenure : (at : Place) (s : ℕ) (w : Actors) →
    at.station ≢ 0 →
    s ≢ 0 →
    at.station ≢ s →
    (target : Option Tenure) (o : Option Rsl) (u : Actors) →
    OtherTenure w at u →
    OfTaken (OtherTenure w at) (took s target o u)
unfolding OtherTenure
other_tenure at s w at_is s_is differ target o u same = took-leads (OtherTenure w at) s target o u (record {
  nothing = same;
  activates = λ channel _. elsewhere (with_base s (after_activate (base_of u s) channel) u) (place_at s channel) _ s_is differ (based_tenure s (after_activate (base_of u s) channel) u at ∙ same);
  seats = λ p number channel _ _. same;
  airs = λ channel message _. elsewhere u (place_at s channel) _ s_is differ same;
  answers = λ answer channel.
      let middle : Actors = with_spot (place_at s channel) (record (spot_at u (place_at s channel)) { sapi_three_up = answer }) u in
      based_tenure s (after_tell (base_of middle s) (link_answer answer channel)) middle at ∙ elsewhere u (place_at s channel) _ s_is differ same;
  releases = λ channel. elsewhere (with_base s (after_release (base_of u s) channel) u) (place_at s channel) _ s_is differ (based_tenure s (after_release (base_of u s) channel) u at ∙ same);
}) where
  elsewhere : (x : Actors) (p : Place) (spot : Spot) →
      p.station ≢ 0 →
      at.station ≢ p.station →
      (spot_at x at).tenure ≡ (spot_at w at).tenure →
      (spot_at (with_spot p spot x) at).tenure ≡ (spot_at w at).tenure
  elsewhere x p spot p_is apart is =
      spot_all (λ (q : Place) (t : Spot). q.station ≢ p.station → t.tenure ≡ (spot_at x q).tenure) x p spot p_is (λ other. absurd (other refl)) (λ q q_is other. refl) at at_is apart ∙ is

-- ---- so the agreement is kept

lead_on : (P Q : Actors → Type 0) → ((v : Actors) → P v → Q v) → (o : Option Actors) → OfTaken P o → OfTaken Q o
unfolding OfTaken
lead_on P Q h None leads = tt
lead_on P Q h (Some v) leads = h v leads

own_takes : (owner : Tenure → ℕ) (at : Place) (w : Actors) (o : Option Actors) →
    o ≡ after_base_takes w at.station →
    IsThere at w →
    HaveSpots w →
    Agrees owner w at →
    (spot_at (unwrap_or o w) at).tenure ≡ tenure_all at.number (is_active_at w at) (spot_at w at).tenure (if is_some o then first_of (outbox_of w at.station) else [])
unfolding OfTaken HasTenure
own_takes owner at w o is there all agrees = subst (λ (p : Option Actors). (spot_at (unwrap_or p w) at).tenure ≡ tenure_all at.number (is_active_at w at) (spot_at w at).tenure (if is_some p then first_of (outbox_of w at.station) else [])) (sym is)
    (of_taken (after_base_takes w at.station) (base_takes_leads OwnTook w at.station (λ first others up pending. lift first others pending))) where
      OwnTook : Actors → Type 0
      OwnTook v = (spot_at v at).tenure ≡ tenure_all at.number (is_active_at w at) (spot_at w at).tenure (first_of (outbox_of w at.station))

      of_taken : (p : Option Actors) →
          OfTaken OwnTook p →
          (spot_at (unwrap_or p w) at).tenure ≡ tenure_all at.number (is_active_at w at) (spot_at w at).tenure (if is_some p then first_of (outbox_of w at.station) else [])
      of_taken None leads = refl
      of_taken (Some v) leads = leads

      lift : (first : OutboxEntry) (others : List OutboxEntry) →
          outbox_of w at.station ≡ first ∷ others →
          OfTaken OwnTook (took at.station first.target (rsl_in first.out.frame) (with_outbox at.station others w))
      lift first others pending =
          lead_on (HasTenure at.station (with_outbox at.station others w) at (rsl_in first.out.frame)) OwnTook (λ v now. now ∙ ap (tenure_all at.number (is_active_at w at) (spot_at w at).tenure) (sym (ap first_of pending)))
          (took at.station first.target (rsl_in first.out.frame) (with_outbox at.station others w))
          (took_tenure at.station at.number first.target (rsl_in first.out.frame) (with_outbox at.station others w) there.station there.among all
          (λ a activates same. ((subst (FitsTenure owner at (is_active_at w at) (spot_at w at).tenure first.target) activates (subst (AreFitting owner at (is_active_at w at) (spot_at w at).tenure) pending agrees.line).0) same).1))

pub kept_controller : (w : Actors) (s : ℕ) → (actors_after w (BaseTakes s)).controller ≡ w.controller
unfolding event_after
kept_controller w s = after_taken Kept (after_base_takes w s) w (base_takes_leads Kept w s (λ first others up pending. kept first others)) refl where
  Kept : Actors → Type 0
  Kept v = v.controller ≡ w.controller

  kept : (first : OutboxEntry) (others : List OutboxEntry) →
      OfTaken Kept (took s first.target (rsl_in first.out.frame) (with_outbox s others w))
  kept first others = took-leads Kept s first.target (rsl_in first.out.frame) (with_outbox s others w) (record {
    nothing = refl;
    activates = λ channel _. refl;
    seats = λ p number channel _ _. refl;
    airs = λ channel message _. refl;
    answers = λ answer channel. refl;
    releases = λ channel. refl;
  })

taken_tenure : (owner : Tenure → ℕ) (at : Place) (w : Actors) (s : ℕ) →
    IsThere at w →
    HaveSpots w →
    Agrees owner w at →
    (spot_at (actors_after w (BaseTakes s)) at).tenure ≡ tenure_all at.number (is_active_at w at) (spot_at w at).tenure (taken at.station w (BaseTakes s))
unfolding event_after OtherTenure
taken_tenure owner at w s there all agrees = elim (cases_Bool (nat_eq s at.station)) [
  | inl hit ↦
      let same : s ≡ at.station = eqb-true s at.station hit in
      own_takes owner at w (after_base_takes w s) (ap (after_base_takes w) same) there all agrees
      ∙ ap (tenure_all at.number (is_active_at w at) (spot_at w at).tenure) (sym (ap (λ (b : Bool). if b then (if is_some (after_base_takes w s) then first_of (outbox_of w at.station) else []) else []) hit))
  | inr miss ↦
      after_taken (OtherTenure w at) (after_base_takes w s) w (base_takes_leads (OtherTenure w at) w s (λ first others up pending.
      other_tenure at s w there.station (up_right s w up).0 (λ same. eqb-false s at.station miss (sym same)) first.target (rsl_in first.out.frame) (with_outbox s others w) refl)) refl
      ∙ ap (tenure_all at.number (is_active_at w at) (spot_at w at).tenure) (sym (ap (λ (b : Bool). if b then (if is_some (after_base_takes w s) then first_of (outbox_of w at.station) else []) else []) miss))
]

pub takes_rests : (owner : Tenure → ℕ) (at : Place) (w : Actors) (s : ℕ) →
    IsThere at w →
    HaveSpots w →
    Agrees owner w at →
    Rests at w (BaseTakes s)
takes_rests owner at w s there all agrees = record {
  outputs = refl;
  pops = refl;
  controller = kept_controller w s;
  tenure = taken_tenure owner at w s there all agrees;
}

pub takes_keep : (owner : Tenure → ℕ) (at : Place) (w : Actors) (s : ℕ) →
    IsThere at w →
    Good w →
    HaveSpots w →
    Agrees owner w at →
    Agrees owner (actors_after w (BaseTakes s)) at
takes_keep owner at w s there good all agrees = rests_keep owner at w (BaseTakes s) there good (takes_rests owner at w s there all agrees) agrees
