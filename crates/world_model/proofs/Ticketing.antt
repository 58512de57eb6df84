-- SPDX-License-Identifier: MIT OR Apache-2.0
-- One mobile per tenure, if the messages that stations take name the owner of the tenure.
use Rattle.world_model.proofs.Prelude.{◌≡◌, ◌≢◌, ◌⊎◌, ◌<◌, is_some, length, ℕ, zero, suc, ◌+◌, ◌-◌, ◌==◌, ◌&&◌, nat_eq, Bool, true, false}
use Rattle.world_model.proofs.Prelude.{if◌then◌else◌, List, [], ◌∷◌, ◌++◌, get_or, replicate, set, slice_index_or, unwrap_or}
use Rattle.world_model.proofs.Prelude.{Option, Some, None, Result, Ok, Err, refl, sym, ap, ◌∙◌, subst, inl, inr, arith, cases_Bool}
use Rattle.world_model.proofs.Prelude.{eqb-true, eqb-false, AllByRecursion, Change, Assignment, Handover, Place, SWITCH_LINK}
use Rattle.world_model.proofs.Prelude.{AllByRecursion-append, is_dtap, place_at, CHANNEL_NUMBERS, take, tick, RrMessage, AssignmentCommand}
use Rattle.world_model.proofs.Prelude.{HandoverCommand, ChannelRelease, ImmediateAssignment, RrFault, Sapi, Zero, Three, rr_reading}
use Rattle.world_model.proofs.Prelude.{LinkFault, after_activate, after_release, refusal_of_activate, BaseState, after_acked, after_arrival}
use Rattle.world_model.proofs.Prelude.{after_queue, is_channel, Rsl, DataRequest, EstablishRequest, ImmediateAssignCommand}
use Rattle.world_model.proofs.Prelude.{ChannelActivation, RfChannelRelease, CellParameters, Parameters, Contains, ◌%◌, after_leave, Event}
use Rattle.world_model.proofs.Prelude.{Upper, Connect, AirUp, AirAck, AirDown, AirDownLost, Move, Touch, Arrive, Return, BaseTakes}
use Rattle.world_model.proofs.Prelude.{BasePush, Handle, SwitchTakes, SwitchDoes, Tick, BaseDown, Report, MAX_TENURE, AirMessage}
use Rattle.world_model.proofs.Prelude.{OutboxEntry, Command, Seat, Asking, On, Moving, Tenure, actors_after, actors_after_all}
use Rattle.world_model.proofs.Prelude.{after_base_push, after_handle, after_tick, after_break, target_in, accepts, activated}
use Rattle.world_model.proofs.Prelude.{activated_unless, assigned, assigned_from, assigned_to, mobile_on, new_tenure, rsl_in, took}
use Rattle.world_model.proofs.Prelude.{after_base_takes, after_switch_takes, after_switch_does, sccp_in, AllAreBy, AssignsBy, IsBy, LeadsBy}
use Rattle.world_model.proofs.Prelude.{SitsBy, TakesBy, TakesFirstBy, on_seat, senders, Actors, Mobile, Spot, Station, base_of}
use Rattle.world_model.proofs.Prelude.{is_active_at, is_reached, is_station_up, mobile_of, new_actors, new_spot, no_station, outbox_of}
use Rattle.world_model.proofs.Prelude.{spot_at, station_of, stations_from, tenure_at, with_base, with_mobile, with_outbox, with_spot}
use Rattle.world_model.specs.Life.{event_after}
use Rattle.world_model.specs.Mobiles.{complete, failure, after_upper, after_connecting, after_air_up, after_air_ack, after_air_down, after_air_down_lost, after_move, after_touch, after_arriving, after_return, after_report, brought, connected, controlled, framed, hearing, left, remembering}
use Rattle.world_model.specs.Tickets.{AllSitBy, OneMobileEach, Sender, sender_at, sender_of}
use Rattle.world_model.proofs.Honesty.{reached_up, set-elsewhere, set-or-not, up_right, less_one}
use Rattle.world_model.proofs.Leads.{OfTaken, FromAir, and_right, upper_leads, connect_leads, air_up_leads, air_ack_leads, air_down_leads, air_down_lost_leads, move_leads, touch_leads, arrive_leads, return_leads, report-leads, base_takes_leads, handle_leads, turn_leads, switch_takes_leads, switch_took-leads, push_leads, does_leads, broken_leads, after_taken, unless_last_leads}
use Rattle.world_model.proofs.Mobility.{back_all, behind_all, found_all}
use Rattle.world_model.proofs.Found.{number_found}

-- ---- channels

set-spots : (stations : List Station) (k j : ℕ) (station : Station) →
    station.spots ≡ (get_or stations k no_station).spots →
    (get_or (set stations k station) j no_station).spots ≡ (get_or stations j no_station).spots
set-spots (first ∷ stations) zero zero station same = same
set-spots (first ∷ stations) (suc k) (suc j) station same = set-spots stations k j station same
set-spots _ _ _ station same = refl

pub spot_with_base : (n : ℕ) (base : BaseState) (w : Actors) (at : Place) → spot_at (with_base n base w) at ≡ spot_at w at
spot_with_base n base w at = ap (λ (spots : List Spot). slice_index_or spots at.number new_spot) (set-spots w.stations (n - 1) (at.station - 1) _ refl)

spots_here : (spots : List Spot) (k : ℕ) (spot : Spot) →
    (slice_index_or (set spots k spot) k new_spot ≡ spot) ⊎ (slice_index_or (set spots k spot) k new_spot ≡ slice_index_or spots k new_spot)
spots_here [] k spot = inr refl
spots_here (first ∷ spots) zero spot = inl refl
spots_here (first ∷ spots) (suc k) spot = spots_here spots k spot

spots-elsewhere : (spots : List Spot) (k j : ℕ) (spot : Spot) →
    j ≢ k →
    slice_index_or (set spots k spot) j new_spot ≡ slice_index_or spots j new_spot
spots-elsewhere (first ∷ spots) zero zero spot differ = absurd (differ refl)
spots-elsewhere (first ∷ spots) (suc k) (suc j) spot differ = spots-elsewhere spots k j spot (λ same. differ (ap suc same))
spots-elsewhere _ _ _ spot differ = refl

-- one channel is set: of its station it is the one, and else as it was
pub set_at : (w : Actors) (p : Place) (spot : Spot) →
    (spot_at (with_spot p spot w) p ≡ spot) ⊎ (spot_at (with_spot p spot w) p ≡ spot_at w p)
set_at w p spot =
    let station : Station = record (station_of w p.station) { spots = set (station_of w p.station).spots p.number spot } in
    elim (set-or-not w.stations (p.station - 1) station) [
      | inl there ↦ elim (spots_here (station_of w p.station).spots p.number spot) [
        | inl hit ↦ inl (ap (λ (s : Station). slice_index_or s.spots p.number new_spot) there ∙ hit)
        | inr same ↦ inr (ap (λ (s : Station). slice_index_or s.spots p.number new_spot) there ∙ same)
      ]
      | inr nowhere ↦ inr (ap (λ (s : Station). slice_index_or s.spots p.number new_spot) (nowhere.0 ∙ sym nowhere.1))
    ]

number-else : (w : Actors) (p : Place) (spot : Spot) (number : ℕ) →
    number ≢ p.number →
    spot_at (with_spot p spot w) (record { station = p.station; number = number }) ≡ spot_at w (record { station = p.station; number = number })
number-else w p spot number differ =
    let station : Station = record (station_of w p.station) { spots = set (station_of w p.station).spots p.number spot } in
    elim (set-or-not w.stations (p.station - 1) station) [
      | inl there ↦ ap (λ (s : Station). slice_index_or s.spots number new_spot) there ∙ spots-elsewhere (station_of w p.station).spots p.number number spot differ
      | inr nowhere ↦ ap (λ (s : Station). slice_index_or s.spots number new_spot) (nowhere.0 ∙ sym nowhere.1)
    ]

-- what holds of all channels, where one is set
pub spot_all : (P : Place → Spot → Type 0) (w : Actors) (p : Place) (spot : Spot) →
    p.station ≢ 0 →
    P p spot →
    ((at : Place) → at.station ≢ 0 → P at (spot_at w at)) →
    (at : Place) →
    at.station ≢ 0 →
    P at (spot_at (with_spot p spot w) at)
spot_all P w p spot p_is here all at at_is =
    elim (cases_Bool (nat_eq at.station p.station)) [
      | inr other ↦ subst (P at) (sym (ap (λ (s : Station). slice_index_or s.spots at.number new_spot) (set-elsewhere w.stations (p.station - 1) (at.station - 1) _ (less_one at.station p.station at_is p_is (eqb-false at.station p.station other))))) (all at at_is)
      | inl station ↦ elim (cases_Bool (nat_eq at.number p.number)) [
        | inr other ↦
            let same : at ≡ record { station = p.station; number = at.number } = ap (λ (n : ℕ). record { station = n; number = at.number }) (eqb-true at.station p.station station) in
            subst (λ (q : Place). P q (spot_at (with_spot p spot w) q)) (sym same) (subst (P (record { station = p.station; number = at.number })) (sym (number-else w p spot at.number (eqb-false at.number p.number other)))
            (all (record { station = p.station; number = at.number }) p_is))
        | inl number ↦
            let same : at ≡ p = ap (λ (n : ℕ). record { station = n; number = at.number }) (eqb-true at.station p.station station) ∙ ap (λ (n : ℕ). record { station = p.station; number = n }) (eqb-true at.number p.number number) in
            subst (λ (q : Place). P q (spot_at (with_spot p spot w) q)) (sym same) (elim (set_at w p spot) [
              | inl now ↦ subst (P p) (sym now) here
              | inr was ↦ subst (P p) (sym was) (all p p_is)
            ])
      ]
    ]

-- ---- the invariant

-- the messages for the air of a channel lead its mobile alone
abbrev AirBy : (Tenure → ℕ) → Place → Spot → Type 0
AirBy owner at spot = AllByRecursion (λ (a : AirMessage). LeadsBy owner (record { at = at; number = spot.tenure }) a.target) spot.air

record Sits (owner : Tenure → ℕ) (w : Actors) : Type 0 where
  mobiles : AllSitBy owner w
  air : (at : Place) → at.station ≢ 0 → AirBy owner at (spot_at w at)

-- mobiles and channels as they were
same_sits : {owner : Tenure → ℕ} {w v : Actors} →
    Sits owner w →
    v.mobiles ≡ w.mobiles →
    ((at : Place) → spot_at v at ≡ spot_at w at) →
    Sits owner v
same_sits {owner} sits mobiles spots = record {
  mobiles = subst (λ (ps : List Mobile). AllByRecursion (λ (p : Mobile). SitsBy owner p.number p.seat) ps) (sym mobiles) sits.mobiles;
  air = λ at at_is. subst (AirBy owner at) (sym (spots at)) (sits.air at at_is);
}

based : {owner : Tenure → ℕ} {w : Actors} (n : ℕ) (base : BaseState) → Sits owner w → Sits owner (with_base n base w)
based {owner} {w} n base sits = same_sits sits refl (λ at. spot_with_base n base w at)

spotted : {owner : Tenure → ℕ} {w : Actors} (p : Place) (spot : Spot) →
    p.station ≢ 0 →
    AirBy owner p spot →
    Sits owner w →
    Sits owner (with_spot p spot w)
spotted {owner} {w} p spot p_is here sits = record { mobiles = sits.mobiles; air = spot_all (AirBy owner) w p spot p_is here sits.air }

put : {owner : Tenure → ℕ} {w : Actors} (p : Mobile) → SitsBy owner p.number p.seat → Sits owner w → Sits owner (with_mobile p w)
put {owner} {w} p here sits = record { mobiles = back_all (λ (q : Mobile). SitsBy owner q.number q.seat) p w.mobiles here sits.mobiles; air = sits.air }

sits_of : {owner : Tenure → ℕ} {w : Actors} {p : Mobile} (number : ℕ) →
    Sits owner w →
    mobile_of w number ≡ Some p →
    SitsBy owner p.number p.seat
sits_of {owner} {w} {p} number sits found = found_all (λ (q : Mobile). SitsBy owner q.number q.seat) number w.mobiles p sits.mobiles found

-- ---- mobiles

pub on_own : (owner : Tenure → ℕ) (number : ℕ) (tenure : Tenure) (command : Option Command) →
    SitsBy owner number (On tenure command) →
    owner tenure ≡ number
on_own owner number tenure None sits = sits
on_own owner number tenure (Some command) sits = sits.0

-- a tenure that is reached is the present one of its channel
reached_is : (w : Actors) (tenure : Tenure) →
    is_reached w tenure ≡ true →
    record { at = tenure.at; number = (spot_at w tenure.at).tenure } ≡ tenure
reached_is w tenure reached = ap (λ (n : ℕ). record { at = tenure.at; number = n }) (eqb-true (spot_at w tenure.at).tenure tenure.number (and_right (is_station_up w tenure.at.station && is_active_at w tenure.at) ((spot_at w tenure.at).tenure == tenure.number) reached))

pub reached_station : (w : Actors) (tenure : Tenure) → is_reached w tenure ≡ true → tenure.at.station ≢ 0
reached_station w tenure reached = (up_right tenure.at.station w (reached_up w tenure reached).0).0

remembers : (owner : Tenure → ℕ) (p : Mobile) (change : Change) (target here : Tenure) (seat : Seat) →
    p.seat ≡ seat →
    owner target ≡ p.number →
    SitsBy owner p.number seat →
    SitsBy owner p.number (remembering p change target seat).seat
remembers owner p change target here (On tenure command) is own sits = (on_own owner p.number tenure command sits, own)
remembers owner p change target here _ is own sits = subst (SitsBy owner p.number) (sym is) sits

controls : (owner : Tenure → ℕ) (p : Mobile) (here : Tenure) (target : Option Tenure) (r : Result RrMessage RrFault) →
    owner here ≡ p.number →
    LeadsBy owner here target →
    SitsBy owner p.number p.seat →
    SitsBy owner p.number (controlled p target r).seat
controls owner p here target (Ok (ChannelRelease cause)) own leads sits = tt
controls owner p here (Some target) (Ok (AssignmentCommand channel)) own leads sits = remembers owner p Assignment target here p.seat refl (leads ∙ own) sits
controls owner p here (Some target) (Ok (HandoverCommand cell channel reference)) own leads sits = remembers owner p Handover target here p.seat refl (leads ∙ own) sits
controls owner p here _ _ own leads sits = sits

pub same_number : (p : Mobile) (target : Option Tenure) (r : Result RrMessage RrFault) → (controlled p target r).number ≡ p.number
same_number p target (Ok (ChannelRelease cause)) = refl
same_number p (Some target) (Ok (AssignmentCommand channel)) = by p.seat
  where
    by : (seat : Seat) → (remembering p Assignment target seat).number ≡ p.number
    by (On tenure command) = refl
    by _ = refl
same_number p (Some target) (Ok (HandoverCommand cell channel reference)) = by p.seat
  where
    by : (seat : Seat) → (remembering p Handover target seat).number ≡ p.number
    by (On tenure command) = refl
    by _ = refl
same_number p None (Ok (AssignmentCommand channel)) = refl
same_number p None (Ok (HandoverCommand cell channel reference)) = refl
same_number p target (Ok _) = refl
same_number p target (Err fault) = refl

hears : (owner : Tenure → ℕ) (p : Mobile) (here : Tenure) (a : AirMessage) →
    owner here ≡ p.number →
    LeadsBy owner here a.target →
    SitsBy owner p.number p.seat →
    SitsBy owner (hearing p a).number (hearing p a).seat
hears owner p here a own leads sits = by (is_dtap a.message)
  where
    by : (b : Bool) →
        SitsBy owner (if b then record p { received = p.received ++ a.message ∷ [] } else controlled p a.target (rr_reading a.message)).number (if b then record p { received = p.received ++ a.message ∷ [] } else controlled p a.target (rr_reading a.message)).seat
    by true = sits
    by false = subst (λ (n : ℕ). SitsBy owner n (controlled p a.target (rr_reading a.message)).seat) (sym (same_number p a.target (rr_reading a.message))) (controls owner p here a.target (rr_reading a.message) own leads sits)

first_leads : (owner : Tenure → ℕ) (here : Tenure) (air : List AirMessage) (first : AirMessage) (others : List AirMessage) →
    air ≡ first ∷ others →
    AllByRecursion (λ (a : AirMessage). LeadsBy owner here a.target) air →
    LeadsBy owner here first.target × AllByRecursion (λ (a : AirMessage). LeadsBy owner here a.target) others
first_leads owner here air first others is all = subst (AllByRecursion (λ (a : AirMessage). LeadsBy owner here a.target)) is all

-- a mobile that takes the first message for the air of its channel
takes_air : (owner : Tenure → ℕ) (w : Actors) (number : ℕ) (p q : Mobile) (tenure : Tenure) (first : AirMessage) (others : List AirMessage) → is_reached w tenure ≡ true → (spot_at w tenure.at).air ≡ first ∷ others → Sits owner w → (LeadsBy owner tenure first.target → SitsBy owner q.number q.seat) →
    Sits owner (with_mobile q (with_spot tenure.at (record (spot_at w tenure.at) { air = others }) w))
takes_air owner w number p q tenure first others reached is sits here =
    let station = reached_station w tenure reached in
    let present : Tenure = record { at = tenure.at; number = (spot_at w tenure.at).tenure } in
    let parts = first_leads owner present (spot_at w tenure.at).air first others is (sits.air tenure.at station) in
    put q (here (subst (λ (t : Tenure). LeadsBy owner t first.target) (reached_is w tenure reached) parts.0))
    (spotted tenure.at (record (spot_at w tenure.at) { air = others }) station parts.1 sits)

-- ---- what a station takes

assigned_sits : (owner : Tenure → ℕ) (w : Actors) (station : ℕ) (r : Result RrMessage RrFault) →
    AssignsBy owner w station r →
    Sits owner w →
    Sits owner (assigned station r w)
assigned_sits owner w station (Ok (ImmediateAssignment channel request advance)) names sits = numbered (is_channel channel.channel.0)
  where
    tenure : Tenure
    tenure = tenure_at w (place_at station channel.channel.0)

    from : (p : Mobile) (seat : Seat) → owner tenure ≡ p.number → Sits owner (assigned_from seat tenure p w)
    from p Asking own = put (record p { seat = On tenure None }) own sits
    from p _ own = sits

    by : (o : Option Mobile) → mobile_of w (slice_index_or request 0 0) ≡ o → Sits owner (assigned_to o tenure w)
    by None found = sits
    by (Some p) found = from p p.seat (names ∙ sym (number_found (slice_index_or request 0 0) w.mobiles p found))

    numbered : (b : Bool) → Sits owner (if b then assigned_to (mobile_of w (slice_index_or request 0 0)) tenure w else w)
    numbered true = by (mobile_of w (slice_index_or request 0 0)) refl
    numbered false = sits
assigned_sits owner w station (Ok _) names sits = sits
assigned_sits owner w station (Err fault) names sits = sits

aired_sits : (owner : Tenure → ℕ) (w : Actors) (station channel : ℕ) (a : AirMessage) (b : Bool) → station ≢ 0 → LeadsBy owner (tenure_at w (place_at station channel)) a.target → Sits owner w →
    Sits owner (if b then with_spot (place_at station channel) (record (spot_at w (place_at station channel)) { air = (spot_at w (place_at station channel)).air ++ a ∷ [] }) w else w)
aired_sits owner w station channel a true is leads sits =
    let at : Place = place_at station channel in
    spotted at (record (spot_at w at) { air = (spot_at w at).air ++ a ∷ [] }) is (AllByRecursion-append (λ (b : AirMessage). LeadsBy owner (tenure_at w at) b.target) (spot_at w at).air (a ∷ []) (sits.air at is) (leads, tt)) sits
aired_sits owner w station channel a false is leads sits = sits

activated_sits : (owner : Tenure → ℕ) (w : Actors) (at : Place) (o : Option LinkFault) →
    at.station ≢ 0 →
    Sits owner w →
    Sits owner (activated_unless o at w)
activated_sits owner w at (Some fault) is sits = sits
activated_sits owner w at None is sits = spotted at (new_tenure (spot_at w at)) is tt (based at.station (after_activate (base_of w at.station) at.number) sits)

took_sits : (owner : Tenure → ℕ) (w : Actors) (station : ℕ) (target : Option Tenure) (o : Option Rsl) →
    station ≢ 0 →
    TakesBy owner w station target o →
    Sits owner w →
    OfTaken (Sits owner) (took station target o w)
unfolding OfTaken
took_sits owner w station target (Some (ChannelActivation a)) is takes sits =
    unless_last_leads (Sits owner) ((spot_at w (place_at station a.channel)).tenure == MAX_TENURE) (activated (place_at station a.channel) w) (activated_sits owner w (place_at station a.channel) (refusal_of_activate (base_of w station) a.channel) is sits)
took_sits owner w station target (Some (ImmediateAssignCommand i)) is takes sits = assigned_sits owner w station (rr_reading i.information) takes sits
took_sits owner w station target (Some (DataRequest d)) is takes sits = aired_sits owner w station d.channel (record { message = d.l3; target = target }) (is_active_at w (place_at station d.channel)) is takes sits
took_sits owner w station target (Some (EstablishRequest l)) is takes sits =
    let at : Place = place_at station l.channel in
    let answer : Bool = is_active_at w at && accepts (mobile_on w (tenure_at w at)) in
    based station _ (spotted at (record (spot_at w at) { sapi_three_up = answer }) is (sits.air at is) sits)
took_sits owner w station target (Some (RfChannelRelease channel)) is takes sits =
    let at : Place = place_at station channel in
    spotted at (record (spot_at w at) { sapi_three_up = false; air = [] }) is tt (based station (after_release (base_of w station) channel) sits)
took_sits owner w station target _ is takes sits = sits

-- ---- each event

brought_sits : (owner : Tenure → ℕ) (w : Actors) (number : ℕ) (p : Mobile) (tenure : Tenure) (sapi : Sapi) (frame : List ℕ) →
    is_reached w tenure ≡ true →
    SitsBy owner p.number p.seat →
    Sits owner w →
    Sits owner (brought w p tenure.at sapi frame)
brought_sits owner w number p tenure Zero frame reached here sits = put (record (framed p Zero) { opens = false }) here (based tenure.at.station _ sits)
brought_sits owner w number p tenure Three frame reached here sits =
    let station = reached_station w tenure reached in
    put (framed p Three) here (spotted tenure.at (record (spot_at w tenure.at) { sapi_three_up = true }) station (sits.air tenure.at station) (based tenure.at.station _ sits))

after_sits : (owner : Tenure → ℕ) (w : Actors) (o : Option Actors) → Sits owner w → OfTaken (Sits owner) o → Sits owner (unwrap_or o w)
after_sits owner w o sits leads = after_taken (Sits owner) o w leads sits

first_takes : (owner : Tenure → ℕ) (w : Actors) (station : ℕ) (entries : List OutboxEntry) (first : OutboxEntry) (others : List OutboxEntry) →
    entries ≡ first ∷ others →
    TakesFirstBy owner w station entries →
    TakesBy owner w station first.target (rsl_in first.out.frame)
first_takes owner w station entries first others is takes = subst (TakesFirstBy owner w station) is takes

sits_step : (owner : Tenure → ℕ) (w : Actors) (event : Event) → IsBy owner w event → Sits owner w → Sits owner (actors_after w event)
unfolding event_after FromAir OfTaken
sits_step owner w (Upper number sapi message) by sits =
    after_sits owner w (after_upper w number sapi message) sits (upper_leads (Sits owner) w number sapi message (λ p found. put (record p { end = after_queue p.end sapi message }) (sits_of number sits found) sits))
sits_step owner w (Connect number station initial accepts) by sits =
    after_sits owner w (after_connecting w number station initial accepts) sits (connect_leads (Sits owner) w number station initial accepts (λ may.
    based station _ (record { mobiles = behind_all (λ (q : Mobile). SitsBy owner q.number q.seat) (connected w.modulus number initial accepts) w.mobiles tt sits.mobiles; air = sits.air })))
sits_step owner w (AirUp number sapi) by sits =
    after_sits owner w (after_air_up w number sapi) sits (air_up_leads (Sits owner) w number sapi (λ p tenure command frame found seat lent reached. brought_sits owner w number p tenure sapi frame reached (sits_of number sits found) sits))
sits_step owner w (AirAck number sapi) by sits =
    after_sits owner w (after_air_ack w number sapi) sits (air_ack_leads (Sits owner) w number sapi (λ p found. put (record p { end = after_acked p.end sapi }) (sits_of number sits found) sits))
sits_step owner w (AirDown number) by sits =
    after_sits owner w (after_air_down w number) sits (air_down_leads (Sits owner) w number (λ p tenure command found seat reached first others air. heard p tenure command found seat reached first others air))
  where
    heard : (p : Mobile) (tenure : Tenure) (command : Option Command) → mobile_of w number ≡ Some p → p.seat ≡ On tenure command → is_reached w tenure ≡ true → (first : AirMessage) (others : List AirMessage) → (spot_at w tenure.at).air ≡ first ∷ others →
        Sits owner (with_mobile (hearing p first) (with_spot tenure.at (record (spot_at w tenure.at) { air = others }) w))
    heard p tenure command found seat reached first others air =
        let here = sits_of number sits found in
        takes_air owner w number p (hearing p first) tenure first others reached air sits (λ leads. hears owner p tenure first (on_own owner p.number tenure command (subst (SitsBy owner p.number) seat here)) leads here)
sits_step owner w (AirDownLost number) by sits =
    after_sits owner w (after_air_down_lost w number) sits (air_down_lost_leads (Sits owner) w number (λ p tenure command found seat reached first others air. takes_air owner w number p p tenure first others reached air sits (λ leads. sits_of number sits found)))
sits_step owner w (Move number) by sits =
    after_sits owner w (after_move w number) sits (move_leads (Sits owner) w number (λ p tenure command found seat reached. leaving p tenure command reached (subst (SitsBy owner p.number) seat (sits_of number sits found))))
  where
    leaving : (p : Mobile) (tenure : Tenure) (command : Command) →
        is_reached w tenure ≡ true →
        (owner tenure ≡ p.number) × (owner command.target ≡ p.number) →
        Sits owner (left w p tenure command)
    leaving p tenure command reached own = put (record p { end = after_leave p.end; seat = Moving tenure command; opens = false }) own (spotted tenure.at (record (spot_at w tenure.at) { air = []; sapi_three_up = false }) (reached_station w tenure reached) tt sits)
sits_step owner w (Touch number) by sits = after_sits owner w (after_touch w number) sits (touch_leads (Sits owner) w number (λ command reached. based command.target.at.station _ sits))
sits_step owner w (Arrive number) by sits =
    after_sits owner w (after_arriving w number) sits (arrive_leads (Sits owner) w number (λ p from command found seat reached.
    put (record p { end = after_arrival p.end (complete command.change); seat = On command.target None }) (subst (SitsBy owner p.number) seat (sits_of number sits found)).1 (based command.target.at.station _ sits)))
sits_step owner w (Return number) by sits =
    after_sits owner w (after_return w number) sits (return_leads (Sits owner) w number (λ p from command found seat reached.
    put (record p { end = after_arrival p.end (failure command.change); seat = On from None }) (subst (SitsBy owner p.number) seat (sits_of number sits found)).0 (based from.at.station _ sits)))
sits_step owner w (BaseTakes station) by sits =
    after_sits owner w (after_base_takes w station) sits (base_takes_leads (Sits owner) w station (λ first others up is.
    took_sits owner (with_outbox station others w) station first.target (rsl_in first.out.frame) (up_right station w up).0 (took_by first others up is) (same_sits sits refl (λ at. refl))))
  where
    -- the outbox doesn't matter to it
    same_takes : (target : Option Tenure) (others : List OutboxEntry) (o : Option Rsl) →
        TakesBy owner w station target o →
        TakesBy owner (with_outbox station others w) station target o
    same_takes target others (Some (ImmediateAssignCommand i)) takes = by_reading (rr_reading i.information) takes
      where
        by_reading : (r : Result RrMessage RrFault) → AssignsBy owner w station r → AssignsBy owner (with_outbox station others w) station r
        by_reading (Ok (ImmediateAssignment channel request advance)) names = names
        by_reading _ names = tt
    same_takes target others (Some (DataRequest d)) takes = takes
    same_takes target others None takes = tt
    same_takes target others (Some _) takes = tt

    took_by : (first : OutboxEntry) (others : List OutboxEntry) →
        is_station_up w station ≡ true →
        outbox_of w station ≡ first ∷ others →
        TakesBy owner (with_outbox station others w) station first.target (rsl_in first.out.frame)
    took_by first others up is = same_takes first.target others (rsl_in first.out.frame) (first_takes owner w station (outbox_of w station) first others is (by up))
sits_step owner w (BasePush source) by sits =
    after_sits owner w (after_base_push w source) sits (push_leads (Sits owner) w source (λ first others. same_sits sits refl (λ at. refl)) (λ message _. same_sits sits refl (λ at. spot_with_base source _ w at)))
sits_step owner w Handle by sits =
    after_sits owner w (after_handle w) sits (handle_leads (Sits owner) w (λ item items _. turn_leads (Sits owner) (target_in w item.source item.what) (take item w.controller) (record w { inbox = items }) (λ links. same_sits sits refl (λ at. refl))))
sits_step owner w SwitchTakes by sits =
    after_sits owner w (after_switch_takes w) sits (switch_takes_leads (Sits owner) w (λ first others _ _. switch_took-leads (Sits owner) (with_outbox SWITCH_LINK others w) (sccp_in first.out.frame) (same_sits sits refl (λ at. refl)) (λ next made. same_sits sits refl (λ at. refl))))
sits_step owner w (SwitchDoes action) by sits = after_sits owner w (after_switch_does w action) sits (does_leads (Sits owner) w action (λ next made. same_sits sits refl (λ at. refl)))
sits_step owner w (Tick ms) by sits = after_sits owner w (after_tick w ms) sits (turn_leads (Sits owner) None (tick ms w.controller) w (λ links. same_sits sits refl (λ at. refl)))
sits_step owner w (BaseDown source) by sits =
    after_sits owner w (after_break w source) sits (broken_leads (Sits owner) w source (λ _ _. same_sits sits refl (λ at. refl)) (λ _ _. same_sits sits refl (λ at. spot_with_base source _ w at)))
sits_step owner w (Report number report) by sits =
    after_sits owner w (after_report w number report) sits (report-leads (Sits owner) w number report (λ tenure reached.
    let station = reached_station w tenure reached in
    based tenure.at.station _ (spotted tenure.at (record (spot_at w tenure.at) { reports = ((spot_at w tenure.at).reports + 1) % 256 }) station (sits.air tenure.at station) sits)))

-- ---- all events

sits_all : (owner : Tenure → ℕ) (w : Actors) (events : List Event) →
    AllAreBy owner w events →
    Sits owner w →
    Sits owner (actors_after_all w events)
sits_all owner w [] by sits = sits
sits_all owner w (event ∷ events) by sits = sits_all owner (actors_after w event) events by.1 (sits_step owner w event by.0 sits)

no_air : (n k : ℕ) → (slice_index_or (replicate n new_spot) k new_spot).air ≡ []
no_air zero k = refl
no_air (suc n) zero = refl
no_air (suc n) (suc k) = no_air n k

new_air : (cells : List CellParameters) (from k number : ℕ) →
    (slice_index_or (get_or (stations_from from cells) k no_station).spots number new_spot).air ≡ []
new_air [] from k number = refl
new_air (cell ∷ cells) from zero number = no_air CHANNEL_NUMBERS number
new_air (cell ∷ cells) from (suc k) number = new_air cells (from + 1) k number

new_sits : (settings : Parameters) (owner : Tenure → ℕ) → Sits owner (new_actors settings)
new_sits settings owner = record {
  mobiles = tt;
  air = λ at at_is. subst (AllByRecursion (λ (a : AirMessage). LeadsBy owner (tenure_at (new_actors settings) at) a.target)) (sym (new_air settings.cells 1 (at.station - 1) at.number)) tt;
}

pub AllSitBy-new : (settings : Parameters) (events : List Event) (owner : Tenure → ℕ) →
    AllAreBy owner (new_actors settings) events →
    AllSitBy owner (actors_after_all (new_actors settings) events)
AllSitBy-new settings events owner by = (sits_all owner (new_actors settings) events by (new_sits settings owner)).mobiles

-- ---- who sends

abbrev IsOwn : (Tenure → ℕ) → Sender → Type 0
IsOwn owner s = owner s.tenure ≡ s.mobile

seat_own : (owner : Tenure → ℕ) (number : ℕ) (seat : Seat) → SitsBy owner number seat → AllByRecursion (IsOwn owner) (on_seat number seat)
seat_own owner number (On tenure command) sits = (on_own owner number tenure command sits, tt)
seat_own owner number _ sits = tt

mobile_own : (owner : Tenure → ℕ) (w : Actors) (number : ℕ) (o : Option Mobile) →
    mobile_of w number ≡ o →
    Sits owner w →
    AllByRecursion (IsOwn owner) (sender_of o)
mobile_own owner w number None found sits = tt
mobile_own owner w number (Some p) found sits = seat_own owner p.number p.seat (sits_of number sits found)

event_own : (owner : Tenure → ℕ) (w : Actors) (event : Event) → Sits owner w → AllByRecursion (IsOwn owner) (sender_at w event)
event_own owner w (AirUp number sapi) sits = by (is_some (event_after w (AirUp number sapi)))
  where
    by : (b : Bool) → AllByRecursion (IsOwn owner) (if b then sender_of (mobile_of w number) else [])
    by true = mobile_own owner w number (mobile_of w number) refl sits
    by false = tt
event_own owner w _ sits = tt

senders_own : (owner : Tenure → ℕ) (w : Actors) (events : List Event) →
    AllAreBy owner w events →
    Sits owner w →
    AllByRecursion (IsOwn owner) (senders w events)
senders_own owner w [] by sits = tt
senders_own owner w (event ∷ events) by sits =
    AllByRecursion-append (IsOwn owner) (sender_at w event) (senders (actors_after w event) events) (event_own owner w event sits) (senders_own owner (actors_after w event) events by.1 (sits_step owner w event by.0 sits))

all_at : (P : Sender → Type 0) (xs : List Sender) (k : ℕ) (d : Sender) → AllByRecursion P xs → k < length xs → P (slice_index_or xs k d)
all_at P [] k d all less = absurd (omega arith)
all_at P (x ∷ xs) zero d all less = all.0
all_at P (x ∷ xs) (suc k) d all less = all_at P xs k d all.1 (omega arith)

contained : (P : Sender → Type 0) (xs : List Sender) (x : Sender) → AllByRecursion P xs → Contains xs x → P x
contained P xs x all (k, less, is) = subst P is (all_at P xs k x all less)

pub OneMobileEach-new : (settings : Parameters) (events : List Event) (owner : Tenure → ℕ) →
    AllAreBy owner (new_actors settings) events →
    OneMobileEach (senders (new_actors settings) events)
OneMobileEach-new settings events owner by one other here there same =
    let all = senders_own owner (new_actors settings) events by (new_sits settings owner) in
    let all_own : (s : Sender) → Contains (senders (new_actors settings) events) s → owner s.tenure ≡ s.mobile = λ s is. contained (IsOwn owner) (senders (new_actors settings) events) s all is in
    sym (all_own one here) ∙ ap owner same ∙ all_own other there
