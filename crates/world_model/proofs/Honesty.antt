-- SPDX-License-Identifier: MIT OR Apache-2.0
-- The stations of a world are honest: a station's end only changes by its calls.
use Rattle.world_model.proofs.Prelude.{◌≡◌, ◌≢◌, ℕ, suc, zero, ◌+◌, ◌-◌, ◌==◌, ◌&&◌, not, nat_eq, Bool, true, false, cond, if◌then◌else◌}
use Rattle.world_model.proofs.Prelude.{List, [], ◌∷◌, ◌++◌, unwrap_or, get_or, set, Option, Some, None, option_to_list, refl, sym, ap, ◌∙◌}
use Rattle.world_model.proofs.Prelude.{subst, append_assoc, inl, inr, ◌⊎◌, arith, cases_Bool, eqb-true, eqb-false, ne_eqb, append-nil}
use Rattle.world_model.proofs.Prelude.{SWITCH_LINK, take, tick, Sapi, Zero, Three, LinkFault, BaseState, is_active, refusal_of_activate}
use Rattle.world_model.proofs.Prelude.{after_activate, after_establish, after_release, after_tell, first_of_messages, first_message}
use Rattle.world_model.proofs.Prelude.{after_next, after_take_down, Rsl, Parameters, CellParameters, Place, place_at, Sccp}
use Rattle.world_model.proofs.Prelude.{refusal_of_connect, is_none, NotActive, Tenures, Tenures-given, Actors, new_actors, stations_from}
use Rattle.world_model.proofs.Prelude.{Mobile, Station, Spot, Link, broken_link, is_up, is_station_up, no_station, station_of, base_of}
use Rattle.world_model.proofs.Prelude.{with_base, spot_at, with_spot, with_outbox, is_active_at, is_reached, Tenure, Event, Upper, Connect}
use Rattle.world_model.proofs.Prelude.{AirUp, AirAck, AirDown, AirDownLost, Move, Touch, Arrive, Return, BaseTakes, BasePush, Handle}
use Rattle.world_model.proofs.Prelude.{SwitchTakes, SwitchDoes, Tick, BaseDown, Report, given, all_given, AreHonest, actors_after}
use Rattle.world_model.proofs.Prelude.{actors_after_all, with_item, pushed_by_station, pushed_by_switch, after_base_push, target_in}
use Rattle.world_model.proofs.Prelude.{after_handle, after_tick, broken, after_break, sccp_in, after_switch_takes, after_switch_does}
use Rattle.world_model.proofs.Prelude.{link_answer, answered, took, rsl_in, after_base_takes}
use Rattle.link_model.specs.Base.{new_base, refusal_unless_active, after_up, is_told}
use Rattle.link_model.specs.BaseCalls.{BaseCall, state_unless, after_call, after_calls, messages_given_by_call, messages_given}
use Rattle.link_model.specs.BaseCalls.BaseCall.{activates, establishes, brings_up, releases, tells, gives_next}
use Rattle.link_model.specs.Tenures.Tenures.{over, begins, brings, ends, apart}
use Rattle.world_model.specs.World.{with_link}
use Rattle.world_model.specs.Mobiles.{is_new, complete, failure, after_upper, after_connecting, after_air_up, after_air_ack, after_air_down, after_air_down_lost, after_move, after_touch, after_arriving, after_return, after_report, with_message_made, channel_required, signalling_brought, short_message_brought, brought, handover_detection, seated}
use Rattle.ruled_relay.specs.declared.item.What.TheVariants as whats
use Rattle.world_model.specs.Life.{event_after}
use Rattle.world_model.proofs.Outboxes.{changed_link, down_after}
use Rattle.world_model.proofs.Leads.{OfTaken, FromAir, and_left, and_right, upper_leads, connect_leads, air_up_leads, air_ack_leads, air_down_leads, air_down_lost_leads, move_leads, touch_leads, arrive_leads, return_leads, report-leads, base_takes_leads, took-leads, handle_leads, turn_leads, switch_takes_leads, switch_took-leads, does_leads, after_taken}

-- ---- lists

-- changed where it is there, and else as it was
pub set-or-not : (stations : List Station) (k : ℕ) (station : Station) →
    (get_or (set stations k station) k no_station ≡ station) ⊎ ((get_or (set stations k station) k no_station ≡ no_station) × (get_or stations k no_station ≡ no_station))
set-or-not [] k station = inr (refl, refl)
set-or-not (first ∷ stations) zero station = inl refl
set-or-not (first ∷ stations) (suc k) station = set-or-not stations k station

pub set-elsewhere : (stations : List Station) (k j : ℕ) (station : Station) →
    j ≢ k →
    get_or (set stations k station) j no_station ≡ get_or stations j no_station
set-elsewhere (first ∷ stations) zero zero station differs = absurd (differs refl)
set-elsewhere (first ∷ stations) (suc k) (suc j) station differs = set-elsewhere stations k j station (λ same. differs (ap suc same))
set-elsewhere _ _ _ station differs = refl

-- another station with the same end
set-same-base : (stations : List Station) (k j : ℕ) (station : Station) →
    station.base ≡ (get_or stations k no_station).base →
    (get_or (set stations k station) j no_station).base ≡ (get_or stations j no_station).base
set-same-base (first ∷ stations) zero zero station same = same
set-same-base (first ∷ stations) (suc k) (suc j) station same = set-same-base stations k j station same
set-same-base _ _ _ station same = refl

pub less_one : (n m : ℕ) → n ≢ 0 → m ≢ 0 → n ≢ m → n - 1 ≢ m - 1
less_one n m n_is m_is differs same = differs (omega arith)

-- ---- ends of stations

pub base_with_spot : (at : Place) (spot : Spot) (w : Actors) (n : ℕ) → base_of (with_spot at spot w) n ≡ base_of w n
base_with_spot at spot w n = set-same-base w.stations (at.station - 1) (n - 1) _ refl

pub base-elsewhere : (w : Actors) (n m : ℕ) (base : BaseState) → n ≢ 0 → m ≢ 0 → n ≢ m → base_of (with_base m base w) n ≡ base_of w n
base-elsewhere w n m base n_is m_is differs = ap (λ (s : Station). s.base) (set-elsewhere w.stations (m - 1) (n - 1) _ (less_one n m n_is m_is differs))

pub base-there : (w : Actors) (n : ℕ) (base : BaseState) →
    (base_of (with_base n base w) n ≡ base) ⊎ ((base_of (with_base n base w) n ≡ no_station.base) × (base_of w n ≡ no_station.base))
base-there w n base =
    elim (set-or-not w.stations (n - 1) (record (station_of w n) { base = base })) [
      | inl there ↦ inl (ap (λ (s : Station). s.base) there)
      | inr nowhere ↦ inr (ap (λ (s : Station). s.base) nowhere.0, ap (λ (s : Station). s.base) nowhere.1)
    ]

-- ---- what an event does to the end of a station

pub data Acts (n : ℕ) (w v : Actors) : Type 0 where
  rests : base_of v n ≡ base_of w n → Acts n w v
  acts : (calls : List BaseCall) →
      is_up w n ≡ true →
      base_of v n ≡ after_calls (base_of w n) calls →
      messages_given (base_of w n) calls ≡ [] →
      Acts n w v

-- all stations' ends are as in w
abbrev pub SameEnds : Actors → Actors → Type 0
SameEnds w u = (k : ℕ) → base_of u k ≡ base_of w k

pub up_right : (station : ℕ) (w : Actors) → is_station_up w station ≡ true → (station ≢ 0) × (is_up w station ≡ true)
up_right station w up = by_number (station == SWITCH_LINK) refl where
  by_number : (b : Bool) → station == SWITCH_LINK ≡ b → (station ≢ 0) × (is_up w station ≡ true)
  by_number true is = absurd (impossible (sym (ap (λ (b : Bool). not b && is_up w station) is) ∙ up)) where
    impossible : false ≡ true → ⊥
    impossible h = absurd cc
  by_number false is = (eqb-false station 0 is, sym (ap (λ (b : Bool). not b && is_up w station) is) ∙ up)

-- calls of one station's end
calling : (n m : ℕ) (w u : Actors) (calls : List BaseCall) (base : BaseState) →
    n ≢ 0 →
    is_station_up w m ≡ true →
    SameEnds w u →
    base ≡ after_calls (base_of w m) calls →
    messages_given (base_of w m) calls ≡ [] →
    Acts n w (with_base m base u)
calling n m w u calls base n_is up same is none =
    elim (cases_Bool (nat_eq n m)) [
      | inl here ↦ subst (λ (k : ℕ). Acts k w (with_base m base u)) (sym (eqb-true n m here)) at_m
      | inr other ↦ rests (base-elsewhere u n m base n_is (up_right m w up).0 (eqb-false n m other) ∙ same n)
    ] where
      at_m : Acts m w (with_base m base u)
      at_m = elim (base-there u m base) [
        | inl there ↦ acts calls (up_right m w up).1 (there ∙ is) none
        | inr nowhere ↦ rests (nowhere.0 ∙ sym nowhere.1 ∙ same m)
      ]

acts_at : {n : ℕ} {w u v : Actors} → base_of v n ≡ base_of u n → Acts n w u → Acts n w v
acts_at same (rests is) = rests (same ∙ is)
acts_at same (acts calls up is none) = acts calls up (same ∙ is) none

active_unless : (base : BaseState) (channel : ℕ) → is_active base.active channel ≡ true → refusal_unless_active base channel ≡ None
active_unless base channel is = ap (λ (b : Bool). cond b None (Some NotActive)) is

establishing : (base : BaseState) (channel : ℕ) (sapi : Sapi) (message : Option (List ℕ)) →
    is_active base.active channel ≡ true →
    after_establish base channel sapi message ≡ after_call base (establishes channel sapi message)
establishing base channel sapi message is = sym (ap (λ (o : Option LinkFault). state_unless o base (after_establish base channel sapi message)) (active_unless base channel is))

bringing : (base : BaseState) (channel : ℕ) (sapi : Sapi) (message : List ℕ) →
    is_active base.active channel ≡ true →
    after_up base channel sapi message ≡ after_call base (brings_up channel sapi message)
bringing base channel sapi message is = sym (ap (λ (o : Option LinkFault). state_unless o base (after_up base channel sapi message)) (active_unless base channel is))

activating : (base : BaseState) (channel : ℕ) →
    refusal_of_activate base channel ≡ None →
    after_activate base channel ≡ after_call base (activates channel)
activating base channel is = sym (ap (λ (o : Option LinkFault). state_unless o base (after_activate base channel)) is)

-- ---- reached channels are active, of a station that is up

pub reached_up : (w : Actors) (tenure : Tenure) →
    is_reached w tenure ≡ true →
    (is_station_up w tenure.at.station ≡ true) × (is_active_at w tenure.at ≡ true)
reached_up w tenure is =
    let front = and_left (is_station_up w tenure.at.station && is_active_at w tenure.at) ((spot_at w tenure.at).tenure == tenure.number) is in
    (and_left (is_station_up w tenure.at.station) (is_active_at w tenure.at) front, and_right (is_station_up w tenure.at.station) (is_active_at w tenure.at) front)

-- ---- each event but a push and a break

brought_acts : (n : ℕ) (w : Actors) (p : Mobile) (tenure : Tenure) (sapi : Sapi) (frame : List ℕ) →
    n ≢ 0 →
    is_reached w tenure ≡ true →
    Acts n w (brought w p tenure.at sapi frame)
brought_acts n w p tenure Zero frame n_is reached = acts_at refl (by_opening p.opens) where
  base : BaseState
  base = base_of w tenure.at.station

  by_opening : (b : Bool) → Acts n w (with_base tenure.at.station (signalling_brought base tenure.at.number b frame) w)
  by_opening true = calling n tenure.at.station w w (establishes tenure.at.number Zero (Some frame) ∷ []) _ n_is (reached_up w tenure reached).0 (λ k. refl) (establishing base tenure.at.number Zero (Some frame) (reached_up w tenure reached).1) refl
  by_opening false = calling n tenure.at.station w w (brings_up tenure.at.number Zero frame ∷ []) _ n_is (reached_up w tenure reached).0 (λ k. refl) (bringing base tenure.at.number Zero frame (reached_up w tenure reached).1) refl
brought_acts n w p tenure Three frame n_is reached = acts_at (base_with_spot tenure.at _ (with_base tenure.at.station (short_message_brought base tenure.at.number (spot_at w tenure.at).sapi_three_up frame) w) n) (by_link (spot_at w tenure.at).sapi_three_up) where
  base : BaseState
  base = base_of w tenure.at.station

  is_on : is_active base.active tenure.at.number ≡ true
  is_on = (reached_up w tenure reached).1

  by_link : (b : Bool) → Acts n w (with_base tenure.at.station (short_message_brought base tenure.at.number b frame) w)
  by_link true = calling n tenure.at.station w w (brings_up tenure.at.number Three frame ∷ []) _ n_is (reached_up w tenure reached).0 (λ k. refl) (bringing base tenure.at.number Three frame is_on) refl
  by_link false = calling n tenure.at.station w w (establishes tenure.at.number Three None ∷ brings_up tenure.at.number Three frame ∷ []) _ n_is (reached_up w tenure reached).0 (λ k. refl)
      (bringing (after_establish base tenure.at.number Three None) tenure.at.number Three frame is_on ∙ ap (λ (b : BaseState). after_call b (brings_up tenure.at.number Three frame)) (establishing base tenure.at.number Three None is_on)) refl

told_acts : (n m : ℕ) (message : Rsl) (w u : Actors) →
    n ≢ 0 →
    is_station_up w m ≡ true →
    SameEnds w u →
    is_told message ≡ true →
    Acts n w (with_message_made m message u)
told_acts n m message w u n_is up same is =
    calling n m w u (tells message ∷ []) (after_tell (base_of u m) message) n_is up same
    (ap (λ (b : BaseState). after_tell b message) (same m) ∙ sym (ap (λ (b : Bool). if b then after_tell (base_of w m) message else base_of w m) is)) refl

seated_acts : (n : ℕ) (w : Actors) (p : Mobile) (tenure : Tenure) (control : List ℕ) →
    n ≢ 0 →
    is_reached w tenure ≡ true →
    Acts n w (seated w p tenure control)
seated_acts n w p tenure control n_is reached =
    acts_at refl (calling n tenure.at.station w w (establishes tenure.at.number Zero None ∷ []) _ n_is (reached_up w tenure reached).0 (λ k. refl) (establishing (base_of w tenure.at.station) tenure.at.number Zero None (reached_up w tenure reached).1) refl)

answered_acts : (n station channel : ℕ) (answer : Bool) (w u : Actors) →
    n ≢ 0 →
    is_station_up w station ≡ true →
    SameEnds w u →
    Acts n w (answered answer (place_at station channel) u)
answered_acts n station channel answer w u n_is up same =
    told_acts n station (link_answer answer channel) w _ n_is up (λ k. base_with_spot (place_at station channel) _ u k ∙ same k) (by_answer answer) where
      by_answer : (b : Bool) → is_told (link_answer b channel) ≡ true
      by_answer true = refl
      by_answer false = refl

took_acts : (n station : ℕ) (target : Option Tenure) (o : Option Rsl) (w u : Actors) →
    n ≢ 0 →
    is_station_up w station ≡ true →
    SameEnds w u →
    OfTaken (Acts n w) (took station target o u)
took_acts n station target o w u n_is up same = took-leads (Acts n w) station target o u (record {
  nothing = rests (same n);
  activates = λ channel free. acts_at (base_with_spot (place_at station channel) _ (with_base station (after_activate (base_of u station) channel) u) n)
      (calling n station w u (activates channel ∷ []) _ n_is up same (activating (base_of u station) channel free ∙ ap (λ (b : BaseState). after_call b (activates channel)) (same station)) refl);
  seats = λ p number channel _ _. rests (same n);
  airs = λ channel message _. rests (base_with_spot (place_at station channel) _ u n ∙ same n);
  answers = λ answer channel. answered_acts n station channel answer w u n_is up same;
  releases = λ channel. acts_at (base_with_spot (place_at station channel) _ (with_base station (after_release (base_of u station) channel) u) n)
      (calling n station w u (releases channel ∷ []) _ n_is up same (ap (λ (b : BaseState). after_release b channel) (same station)) refl);
})

-- ---- an event: calls of the end, with what it gives; or its link breaks, and what it made is lost

pub data Step (n : ℕ) (w : Actors) (event : Event) (v : Actors) : Type 0 where
  acts_then : Acts n w v → given n w event ≡ [] → Step n w event v
  gives : (message : Rsl) →
      first_message (base_of w n) ≡ Some message →
      base_of v n ≡ after_next (base_of w n) →
      given n w event ≡ message ∷ [] →
      Step n w event v
  breaks : is_up v n ≡ false → (base_of v n).messages ≡ [] → given n w event ≡ [] → Step n w event v

-- what a push or a break does to the end
pub data Plain (n : ℕ) (w : Actors) (event : Event) (v : Actors) : Type 0 where
  as_before : base_of v n ≡ base_of w n → given n w event ≡ [] → Plain n w event v
  next : (message : Rsl) →
      first_message (base_of w n) ≡ Some message →
      base_of v n ≡ after_next (base_of w n) →
      given n w event ≡ message ∷ [] →
      Plain n w event v
  ends_now : is_up v n ≡ false → (base_of v n).messages ≡ [] → given n w event ≡ [] → Plain n w event v

plain_step : {n : ℕ} {w v : Actors} {event : Event} → Plain n w event v → Step n w event v
plain_step (as_before same nothing) = acts_then (rests same) nothing
plain_step (next message first is nows) = gives message first is nows
plain_step (ends_now down left nothing) = breaks down left nothing

acting : (n : ℕ) (w : Actors) (event : Event) (o : Option Actors) →
    given n w event ≡ [] →
    OfTaken (Acts n w) o →
    Step n w event (unwrap_or o w)
acting n w event o nothing leads = acts_then (after_taken (Acts n w) o w leads (rests refl)) nothing

-- a push
pub pushing : (n source : ℕ) (w : Actors) → n ≢ 0 → Plain n w (BasePush source) (unwrap_or (after_base_push w source) w)
pushing n source w n_is = by_number (nat_eq source SWITCH_LINK) refl where
  none_given : source ≡ 0 → given n w (BasePush source) ≡ []
  none_given is = ap (λ (b : Bool). if b then option_to_list (first_message (base_of w n)) else []) (ne_eqb source n (λ same. n_is (sym same ∙ is)))

  from_station : source ≢ 0 →
      (o : Option Rsl) →
      first_message (base_of w source) ≡ o →
      Plain n w (BasePush source) (unwrap_or (pushed_by_station source o w) w)
  from_station source_is o made =
      elim (cases_Bool (nat_eq source n)) [
        | inl same ↦ own (eqb-true source n same) same o made
        | inr other ↦ others other o
      ] where
        own : source ≡ n →
            nat_eq source n ≡ true →
            (o : Option Rsl) →
            first_message (base_of w source) ≡ o →
            Plain n w (BasePush source) (unwrap_or (pushed_by_station source o w) w)
        own is same None made =
            as_before refl (ap (λ (b : Bool). if b then option_to_list (first_message (base_of w n)) else []) same ∙ ap (λ (k : ℕ). option_to_list (first_message (base_of w k))) (sym is) ∙ ap option_to_list made)
        own is same (Some message) made =
            next message (ap (λ (k : ℕ). first_message (base_of w k)) (sym is) ∙ made)
            (subst (λ (k : ℕ). base_of (with_base source (after_next (base_of w source)) w) k ≡ after_next (base_of w k)) is (next_there source))
            (ap (λ (b : Bool). if b then option_to_list (first_message (base_of w n)) else []) same ∙ ap (λ (k : ℕ). option_to_list (first_message (base_of w k))) (sym is) ∙ ap option_to_list made) where
              next_there : (k : ℕ) → base_of (with_base k (after_next (base_of w k)) w) k ≡ after_next (base_of w k)
              next_there k = elim (base-there w k (after_next (base_of w k))) [
                | inl there ↦ there
                | inr nowhere ↦ nowhere.0 ∙ sym (ap after_next nowhere.1)
              ]

        others : nat_eq source n ≡ false → (o : Option Rsl) → Plain n w (BasePush source) (unwrap_or (pushed_by_station source o w) w)
        others other None = as_before refl (ap (λ (b : Bool). if b then option_to_list (first_message (base_of w n)) else []) other)
        others other (Some message) =
            as_before (base-elsewhere w n source _ n_is source_is (λ is. eqb-false source n other (sym is))) (ap (λ (b : Bool). if b then option_to_list (first_message (base_of w n)) else []) other)

  from_switch : source ≡ 0 → (made : List Sccp) → Plain n w (BasePush source) (unwrap_or (pushed_by_switch made w) w)
  from_switch is [] = as_before refl (none_given is)
  from_switch is (first ∷ others) = as_before refl (none_given is)

  by_number : (b : Bool) →
      nat_eq source SWITCH_LINK ≡ b →
      Plain n w (BasePush source) (unwrap_or (if b then pushed_by_switch w.switch_made w else pushed_by_station source (first_message (base_of w source)) w) w)
  by_number true is = from_switch (eqb-true source 0 is) w.switch_made
  by_number false is = from_station (eqb-false source 0 is) (first_message (base_of w source)) refl

-- a break
pub breaking : (n source : ℕ) (w : Actors) → n ≢ 0 → Plain n w (BaseDown source) (unwrap_or (after_break w source) w)
breaking n source w n_is = by_link (is_up w source) refl where
  u : Actors
  u = with_link source broken_link w

  v : Actors
  v = with_item (record { source = source; what = whats.Down }) (with_base source (after_take_down (base_of u source)) u)

  nothing_left : (base_of v source).messages ≡ []
  nothing_left = elim (base-there u source (after_take_down (base_of u source))) [
    | inl there ↦ ap (λ (b : BaseState). b.messages) there
    | inr nowhere ↦ ap (λ (b : BaseState). b.messages) nowhere.0
  ]

  own : source ≡ n → is_up w source ≡ true → Plain n w (BaseDown source) v
  own is up = subst (λ (k : ℕ). Plain k w (BaseDown source) v) is (ends_now (ap (λ (l : Link). l.up) (changed_link w.links source broken_link up)) nothing_left refl)

  made : is_up w source ≡ true →
      (b : Bool) →
      nat_eq source SWITCH_LINK ≡ b →
      Plain n w (BaseDown source) (with_item (record { source = source; what = whats.Down }) (if b then record u { switch_made = [] } else with_base source (after_take_down (base_of u source)) u))
  made up true is = as_before refl refl
  made up false is =
      elim (cases_Bool (nat_eq source n)) [
        | inl same ↦ own (eqb-true source n same) up
        | inr other ↦ as_before (base-elsewhere u n source (after_take_down (base_of u source)) n_is (eqb-false source 0 is) (λ is_n. eqb-false source n other (sym is_n))) refl
      ]

  by_link : (b : Bool) → is_up w source ≡ b → Plain n w (BaseDown source) (unwrap_or (if b then Some (broken source w) else None) w)
  by_link true up = made up (nat_eq source SWITCH_LINK) refl
  by_link false down = as_before refl refl

pub step : (n : ℕ) (w : Actors) (event : Event) → n ≢ 0 → Step n w event (actors_after w event)
unfolding event_after FromAir OfTaken
step n w (Upper number sapi message) n_is = acting n w (Upper number sapi message) (after_upper w number sapi message) refl (upper_leads (Acts n w) w number sapi message (λ p _. rests refl))
step n w (Connect number station initial accepts) n_is =
    acting n w (Connect number station initial accepts) (after_connecting w number station initial accepts) refl
    (connect_leads (Acts n w) w number station initial accepts (λ may. told_acts n station (channel_required number) w _ n_is (and_right (is_new w number) (is_station_up w station) (and_left (is_new w number && is_station_up w station) (is_none (refusal_of_connect (Some initial))) may)) (λ k. refl) refl))
step n w (AirUp number sapi) n_is =
    acting n w (AirUp number sapi) (after_air_up w number sapi) refl (air_up_leads (Acts n w) w number sapi (λ p tenure command frame _ _ _ reached. brought_acts n w p tenure sapi frame n_is reached))
step n w (AirAck number sapi) n_is = acting n w (AirAck number sapi) (after_air_ack w number sapi) refl (air_ack_leads (Acts n w) w number sapi (λ p _. rests refl))
step n w (AirDown number) n_is = acting n w (AirDown number) (after_air_down w number) refl (air_down_leads (Acts n w) w number (λ p tenure command _ _ _ first others _. rests (base_with_spot tenure.at _ w n)))
step n w (AirDownLost number) n_is = acting n w (AirDownLost number) (after_air_down_lost w number) refl (air_down_lost_leads (Acts n w) w number (λ p tenure command _ _ _ first others _. rests (base_with_spot tenure.at _ w n)))
step n w (Move number) n_is = acting n w (Move number) (after_move w number) refl (move_leads (Acts n w) w number (λ p tenure command _ _ _. rests (base_with_spot tenure.at _ w n)))
step n w (Touch number) n_is =
    acting n w (Touch number) (after_touch w number) refl (touch_leads (Acts n w) w number (λ command reached. told_acts n command.target.at.station (handover_detection command.target.at.number) w w n_is (reached_up w command.target reached).0 (λ k. refl) refl))
step n w (Arrive number) n_is =
    acting n w (Arrive number) (after_arriving w number) refl (arrive_leads (Acts n w) w number (λ p from command _ _ reached. seated_acts n w p command.target (complete command.change) n_is reached))
step n w (Return number) n_is =
    acting n w (Return number) (after_return w number) refl (return_leads (Acts n w) w number (λ p from command _ _ reached. seated_acts n w p from (failure command.change) n_is reached))
step n w (BaseTakes station) n_is =
    acting n w (BaseTakes station) (after_base_takes w station) refl (base_takes_leads (Acts n w) w station (λ first others up _. took_acts n station first.target (rsl_in first.out.frame) w (with_outbox station others w) n_is up (λ k. refl)))
step n w (BasePush source) n_is = plain_step (pushing n source w n_is)
step n w Handle n_is =
    acting n w Handle (after_handle w) refl (handle_leads (Acts n w) w (λ item items _. turn_leads (Acts n w) (target_in w item.source item.what) (take item w.controller) (record w { inbox = items }) (λ links. rests refl)))
step n w SwitchTakes n_is =
    acting n w SwitchTakes (after_switch_takes w) refl (switch_takes_leads (Acts n w) w (λ first others _ _. switch_took-leads (Acts n w) (with_outbox SWITCH_LINK others w) (sccp_in first.out.frame) (rests refl) (λ next made. rests refl)))
step n w (SwitchDoes action) n_is = acting n w (SwitchDoes action) (after_switch_does w action) refl (does_leads (Acts n w) w action (λ next made. rests refl))
step n w (Tick ms) n_is = acting n w (Tick ms) (after_tick w ms) refl (turn_leads (Acts n w) None (tick ms w.controller) w (λ links. rests refl))
step n w (BaseDown source) n_is = plain_step (breaking n source w n_is)
step n w (Report number report) n_is =
    acting n w (Report number report) (after_report w number report) refl (report-leads (Acts n w) w number report (λ tenure reached. told_acts n tenure.at.station _ w _ n_is (reached_up w tenure reached).0 (λ k. base_with_spot tenure.at _ w k) refl))

-- ---- all events

after_calls-append : (base : BaseState) (xs ys : List BaseCall) → after_calls base (xs ++ ys) ≡ after_calls (after_calls base xs) ys
after_calls-append base [] ys = refl
after_calls-append base (x ∷ xs) ys = after_calls-append (after_call base x) xs ys

messages_given-append : (base : BaseState) (xs ys : List BaseCall) →
    messages_given base (xs ++ ys) ≡ messages_given base xs ++ messages_given (after_calls base xs) ys
messages_given-append base [] ys = refl
messages_given-append base (x ∷ xs) ys =
    ap (λ (ms : List Rsl). messages_given_by_call base x ++ ms) (messages_given-append (after_call base x) xs ys)
    ∙ sym (append_assoc (messages_given_by_call base x) (messages_given (after_call base x) xs) (messages_given (after_calls (after_call base x) xs) ys))

tenures_front : {channel : ℕ} {start end : Bool} (xs ys : List Rsl) →
    Tenures channel start (xs ++ ys) end →
    (mid : Bool) × Tenures channel start xs mid
tenures_front {start} [] ys h = (start, over start)
tenures_front (x ∷ xs) ys (begins h) = let front = tenures_front xs ys h in (front.0, begins front.1)
tenures_front (x ∷ xs) ys (brings is h) = let front = tenures_front xs ys h in (front.0, brings is front.1)
tenures_front (x ∷ xs) ys (ends h) = let front = tenures_front xs ys h in (front.0, ends front.1)
tenures_front (x ∷ xs) ys (apart free unbound h) = let front = tenures_front xs ys h in (front.0, apart free unbound front.1)

-- what was given so far, and the end now: calls made it so; or the link is down, and nothing waits
pub data Kept (n : ℕ) (so_far : List Rsl) (w : Actors) : Type 0 where
  works : (station : ℕ) (calls : List BaseCall) →
      base_of w n ≡ after_calls (new_base station) calls →
      so_far ≡ messages_given (new_base station) calls →
      Kept n so_far w
  rested : is_up w n ≡ false →
      (base_of w n).messages ≡ [] →
      ((channel : ℕ) → (end : Bool) × Tenures channel false so_far end) →
      Kept n so_far w

with_nothing : (so_far more : List Rsl) → more ≡ [] → so_far ++ more ≡ so_far
with_nothing so_far more none = ap (λ (ms : List Rsl). so_far ++ ms) none ∙ append-nil so_far

tenures_of : {channel : ℕ} {xs ys : List Rsl} →
    xs ≡ ys →
    (end : Bool) × Tenures channel false ys end →
    (end : Bool) × Tenures channel false xs end
tenures_of {channel} is h = (h.0, subst (λ (ms : List Rsl). Tenures channel false ms h.0) (sym is) h.1)

so_far_tenures : (channel station : ℕ) (calls : List BaseCall) →
    (end : Bool) × Tenures channel false (messages_given (new_base station) calls) end
so_far_tenures channel station calls = tenures_front (messages_given (new_base station) calls) (after_calls (new_base station) calls).messages (Tenures-given channel station calls)

pub up_and_down : {b : Bool} → b ≡ true → b ≡ false → ⊥
up_and_down is_true is_false = impossible (sym is_true ∙ is_false) where
  impossible : true ≡ false → ⊥
  impossible h = absurd cc

no_first : (base : BaseState) (message : Rsl) → base.messages ≡ [] → first_message base ≡ Some message → ⊥
no_first base message none first = impossible (sym (ap first_of_messages none) ∙ first) where
  impossible : {message : Rsl} → None ≡ Some message → ⊥
  impossible h = absurd cc

kept_by : (n : ℕ) (so_far : List Rsl) (w : Actors) (event : Event) (v : Actors) →
    Step n w event v →
    (is_up w n ≡ false → is_up v n ≡ false) →
    Kept n so_far w →
    Kept n (so_far ++ given n w event) v
kept_by n so_far w event v (acts_then (rests same) nothing) unchanged (works station calls is gave) =
    works station calls (same ∙ is) (with_nothing so_far (given n w event) nothing ∙ gave)
kept_by n so_far w event v (acts_then (acts more up is_more none) nothing) unchanged (works station calls is gave) =
    works station (calls ++ more)
    (is_more ∙ ap (λ (b : BaseState). after_calls b more) is ∙ sym (after_calls-append (new_base station) calls more))
    (with_nothing so_far (given n w event) nothing ∙ gave ∙ sym (append-nil (messages_given (new_base station) calls))
    ∙ ap (λ (ms : List Rsl). messages_given (new_base station) calls ++ ms) (sym none ∙ ap (λ (b : BaseState). messages_given b more) is)
    ∙ sym (messages_given-append (new_base station) calls more))
kept_by n so_far w event v (gives message first is_next gave_now) unchanged (works station calls is gave) =
    works station (calls ++ gives_next ∷ [])
    (is_next ∙ ap after_next is ∙ sym (after_calls-append (new_base station) calls (gives_next ∷ [])))
    (ap (λ (ms : List Rsl). so_far ++ ms) (gave_now ∙ sym (ap option_to_list (sym (ap first_message is) ∙ first)) ∙ sym (append-nil (option_to_list (first_message (after_calls (new_base station) calls)))))
    ∙ ap (λ (ms : List Rsl). ms ++ (option_to_list (first_message (after_calls (new_base station) calls)) ++ [])) gave
    ∙ sym (messages_given-append (new_base station) calls (gives_next ∷ [])))
kept_by n so_far w event v (breaks down nothing_left nothing) unchanged (works station calls is gave) =
    rested down nothing_left (λ channel. tenures_of (with_nothing so_far (given n w event) nothing ∙ gave) (so_far_tenures channel station calls))
kept_by n so_far w event v (acts_then (rests same) nothing) unchanged (rested down nothing_left tenures) =
    rested (unchanged down) (ap (λ (b : BaseState). b.messages) same ∙ nothing_left) (λ channel. tenures_of (with_nothing so_far (given n w event) nothing) (tenures channel))
kept_by n so_far w event v (acts_then (acts more up is_more none) nothing) unchanged (rested down nothing_left tenures) = absurd (up_and_down up down)
kept_by n so_far w event v (gives message first is_next gave_now) unchanged (rested down nothing_left tenures) = absurd (no_first (base_of w n) message nothing_left first)
kept_by n so_far w event v (breaks down_now nothing_now nothing) unchanged (rested down nothing_left tenures) =
    rested down_now nothing_now (λ channel. tenures_of (with_nothing so_far (given n w event) nothing) (tenures channel))

pub kept_all : (n : ℕ) (so_far : List Rsl) (w : Actors) (events : List Event) →
    n ≢ 0 →
    Kept n so_far w →
    Kept n (so_far ++ all_given n w events) (actors_after_all w events)
kept_all n so_far w [] n_is kept = subst (λ (ms : List Rsl). Kept n ms w) (sym (append-nil so_far)) kept
kept_all n so_far w (event ∷ events) n_is kept =
    subst (λ (ms : List Rsl). Kept n ms (actors_after_all (actors_after w event) events)) (append_assoc so_far (given n w event) (all_given n (actors_after w event) events))
    (kept_all n (so_far ++ given n w event) (actors_after w event) events n_is (kept_by n so_far w event (actors_after w event) (step n w event n_is) (down_after n w event) kept))

pub tenures_kept : (n channel : ℕ) (so_far : List Rsl) (w : Actors) →
    Kept n so_far w →
    (end : Bool) × Tenures channel false (so_far ++ (base_of w n).messages) end
tenures_kept n channel so_far w (works station calls is gave) =
    tenures_of (ap (λ (ms : List Rsl). ms ++ (base_of w n).messages) gave ∙ ap (λ (b : BaseState). messages_given (new_base station) calls ++ b.messages) is)
    (is_active (after_calls (new_base station) calls).active channel, Tenures-given channel station calls)
tenures_kept n channel so_far w (rested down nothing_left tenures) = tenures_of (with_nothing so_far (base_of w n).messages nothing_left) (tenures channel)

-- a new station has a new end
pub new_ends : (cells : List CellParameters) (from k : ℕ) →
    (station : ℕ) × ((get_or (stations_from from cells) k no_station).base ≡ new_base station)
new_ends [] from k = (0, refl)
new_ends (cell ∷ cells) from zero = (from, refl)
new_ends (cell ∷ cells) from (suc k) = new_ends cells (from + 1) k

pub AreHonest-new : (settings : Parameters) (events : List Event) → AreHonest (new_actors settings) events
AreHonest-new settings events n n_is channel =
    let end = new_ends settings.cells 1 (n - 1) in
    tenures_kept n channel (all_given n (new_actors settings) events) (actors_after_all (new_actors settings) events) (kept_all n [] (new_actors settings) events n_is (works end.0 [] end.1 refl))
