-- SPDX-License-Identifier: MIT OR Apache-2.0
-- A station takes a line of its outbox.
use Rattle.world_actors.proofs.Prelude.{◌≡◌, ℕ, ◌-◌, Bool, true, false, if◌then◌else◌, List, [], ◌∷◌, ◌++◌, set, Option, Some, None, Result}
use Rattle.world_actors.proofs.Prelude.{Ok, Err, OnOk, OnErr, IsSome, refl, sym, ap, ◌∙◌, set-get_or, find_at, Place, place_at, Memory, Rsl}
use Rattle.world_actors.proofs.Prelude.{at_mobile, mobile_in, MobilesState, at_station, station_after_message, with_spot_of, Seat, Asking, On, Moving}
use Rattle.world_actors.proofs.Prelude.{Gone, Tenure, behind_first, first_in, Takes, Actors, Mobile, Station, base_of, has_number}
use Rattle.world_actors.proofs.Prelude.{is_station_up, mobile_of, no_station, outbox_of, spot_at, station_of, tenure_at, some_same}
use Rattle.std.proofs.Common.{not}
use Rattle.dtap_codec.specs.RrReading.{rr_reading}
use Rattle.link_model.specs.declared.fault.LinkFault.{LinkFault}
use Rattle.link_model.specs.Base.{after_activate, after_release, refusal_of_activate}
use Rattle.rsl_codec.specs.declared.rsl.Rsl.TheVariants as messages
use Rattle.world_ends.specs.Mobiles.{assigned_to as assigned_in}
use Rattle.world_actors.specs.Links.{taken_of}
use Rattle.world_actors.specs.RelayState.{RelayState}
use Rattle.world_ends.specs.Activations.{activated_by}
use Rattle.world_ends.specs.Stations.{activated_on, activated_unless as unless_on, aired_on, answered_on, released_on}
use Rattle.world_model.specs.declared.line.AirMessage.{AirMessage}
use Rattle.world_model.specs.declared.line.OutboxEntry.{OutboxEntry}
use Rattle.world_model.specs.Stations.{activated, activated_unless, after_base_takes, aired, answered, asked_for_link, assigned, assigned_from, assigned_to, link_answer, new_tenure, released, rsl_in, took, took_first}
use Rattle.world_model.specs.World.{is_active_at, with_outbox}
use Rattle.world_actors.specs.Seats.{is_asking, is_asking_by, is_asking_in}
use Rattle.world_actors.specs.Taking.{can_take, is_spent}
use Rattle.world_actors.proofs.Airing.{done, idle, wants}
use Rattle.world_actors.proofs.Sitting.{at_mobile_is, twice}
use Rattle.world_actors.proofs.Turning.{relay_of, with_relay}
use Rattle.world_actors.proofs.Upper.{mobiles_of, with_mobiles}

abbrev with_stations : Actors → List Station → Actors
with_stations w stations = record w { stations = stations }

-- a station to which nothing happens
unchanged : (w : Actors) (station : ℕ) → w ≡ with_stations w (at_station station (λ s. s) w.stations)
unchanged w station = sym (ap (with_stations w) (set-get_or w.stations (station - 1) no_station))

pub puts : {X : Type 0} (r : Result X Memory) (w next : Actors) (stations after : List Station) →
    next ≡ with_stations w after →
    OnOk r (stations ≡ after) →
    OnOk r (with_stations w stations ≡ next)
puts (Err memory) w next stations after is same = tt
puts (Ok x) w next stations after is same = ap (with_stations w) same ∙ sym is

-- ---- what a message makes of its channel

pub activated_is : (w : Actors) (at : Place) → activated at w ≡ with_stations w (at_station at.station (activated_on at.number) w.stations)
activated_is w at = by_refusal (refusal_of_activate (base_of w at.station) at.number) where
  by_refusal : (o : Option LinkFault) → activated_unless o at w ≡ with_stations w (at_station at.station (unless_on o at.number) w.stations)
  by_refusal (Some fault) = unchanged w at.station
  by_refusal None =
      ap (with_stations w)
      (twice w.stations (at.station - 1) (record (station_of w at.station) { base = after_activate (base_of w at.station) at.number }) (with_spot_of at.number (new_tenure (spot_at w at))))

pub released_is : (w : Actors) (at : Place) → released at w ≡ with_stations w (at_station at.station (released_on at.number) w.stations)
released_is w at =
    ap (with_stations w)
    (twice w.stations (at.station - 1) (record (station_of w at.station) { base = after_release (base_of w at.station) at.number }) (with_spot_of at.number (record (spot_at w at) { sapi_three_up = false; air = [] })))

pub aired_is : (w : Actors) (at : Place) (message : AirMessage) →
    aired at message w ≡ with_stations w (at_station at.station (aired_on at.number message) w.stations)
aired_is w at message = by_active (is_active_at w at) where
  put : Station → Station
  put s = with_spot_of at.number (record (spot_at w at) { air = (spot_at w at).air ++ message ∷ [] }) s

  by_active : (b : Bool) → (if b then with_stations w (at_station at.station put w.stations) else w)
      ≡ with_stations w (set w.stations (at.station - 1) (if b then put (station_of w at.station) else station_of w at.station))
  by_active true = refl
  by_active false = unchanged w at.station

pub answered_is : (w : Actors) (answer : Bool) (at : Place) →
    answered answer at w ≡ with_stations w (at_station at.station (answered_on answer at.number) w.stations)
answered_is w answer at =
    ap (with_stations w)
    (twice w.stations (at.station - 1) (with_spot_of at.number (record (spot_at w at) { sapi_three_up = answer }) (station_of w at.station)) (station_after_message (link_answer answer at.number)))

-- ---- a mobile that asked for a channel is on it

assigned_is : (w : Actors) (number : ℕ) (tenure : Tenure) →
    is_asking_by w number ≡ true →
    assigned_to (mobile_of w number) tenure w ≡ with_mobiles w (at_mobile number (assigned_in tenure) (mobiles_of w))
assigned_is w number tenure asks = by_found (mobile_in number w.mobiles) (find_at (has_number number) w.mobiles) asks where
  by_seat : (p : Mobile) (s : Seat) →
      mobile_of w number ≡ Some p →
      p.seat ≡ s →
      is_asking s ≡ true →
      assigned_to (mobile_of w number) tenure w ≡ with_mobiles w (at_mobile number (assigned_in tenure) (mobiles_of w))
  by_seat p Asking are sits h =
      ap (λ (o : Option Mobile). assigned_to o tenure w) are ∙ ap (λ (s : Seat). assigned_from s tenure p w) sits
      ∙ sym (ap (with_mobiles w) (at_mobile_is w number p (assigned_in tenure) are refl))
  by_seat p (On t c) are sits h = absurd cc
  by_seat p (Moving from command) are sits h = absurd cc
  by_seat p Gone are sits h = absurd cc

  by_found : (o : Option Mobile) →
      mobile_of w number ≡ o →
      is_asking_in o ≡ true →
      assigned_to (mobile_of w number) tenure w ≡ with_mobiles w (at_mobile number (assigned_in tenure) (mobiles_of w))
  by_found None are h = absurd cc
  by_found (Some p) are h = by_seat p p.seat are refl h

pub unassigned_is : (w : Actors) (number : ℕ) (tenure : Tenure) →
    is_asking_by w number ≡ false →
    w ≡ assigned_to (mobile_of w number) tenure w
unassigned_is w number tenure asks = by_found (mobile_in number w.mobiles) (find_at (has_number number) w.mobiles) asks where
  by_seat : (p : Mobile) (s : Seat) → is_asking s ≡ false → w ≡ assigned_from s tenure p w
  by_seat p Asking h = absurd cc
  by_seat p (On t c) h = refl
  by_seat p (Moving from command) h = refl
  by_seat p Gone h = refl

  by_found : (o : Option Mobile) → mobile_of w number ≡ o → is_asking_in o ≡ false → w ≡ assigned_to (mobile_of w number) tenure w
  by_found None are h = sym (ap (λ (x : Option Mobile). assigned_to x tenure w) are)
  by_found (Some p) are h = by_seat p p.seat h ∙ sym (ap (λ (x : Option Mobile). assigned_to x tenure w) are)

pub assigned_done : (w : Actors) (number : ℕ) (tenure : Tenure) (at : Place) (mobiles : MobilesState) → is_asking_by w number ≡ true → tenure ≡ tenure_at w at
    → mobiles ≡ at_mobile number (assigned_in tenure) (mobiles_of w) → with_mobiles w mobiles ≡ assigned_to (mobile_of w number) (tenure_at w at) w
assigned_done w number tenure at mobiles asks is after =
    ap (with_mobiles w) (after ∙ ap (λ (t : Tenure). at_mobile number (assigned_in t) (mobiles_of w)) is)
    ∙ sym (assigned_is w number (tenure_at w at) asks)

-- ---- a line is taken unless it activates a channel that had its last tenure

abbrev Took : ℕ → Option Tenure → Option Rsl → Actors → Type 0
Took station target m v = (next : Actors) × (took station target m v ≡ (if is_spent v station (activated_by m) then None else Some next))

took_by : (station : ℕ) (target : Option Tenure) (m : Option Rsl) (v : Actors) → Took station target m v
took_by station target None v = (v, refl)
took_by station target (Some (messages.ChannelActivation a)) v = (activated (place_at station a.channel) v, refl)
took_by station target (Some (messages.ImmediateAssignCommand i)) v = (assigned station (rr_reading i.information) v, refl)
took_by station target (Some (messages.DataRequest d)) v = (aired (place_at station d.channel) (record { message = d.l3; target = target }) v, refl)
took_by station target (Some (messages.EstablishRequest l)) v = (asked_for_link (place_at station l.channel) v, refl)
took_by station target (Some (messages.RfChannelRelease channel)) v = (released (place_at station channel) v, refl)
took_by station target (Some (messages.DataIndication m)) v = (v, refl)
took_by station target (Some (messages.ErrorIndication m)) v = (v, refl)
took_by station target (Some (messages.EstablishConfirm m)) v = (v, refl)
took_by station target (Some (messages.EstablishIndication m)) v = (v, refl)
took_by station target (Some (messages.ReleaseRequest m)) v = (v, refl)
took_by station target (Some (messages.ReleaseConfirm m)) v = (v, refl)
took_by station target (Some (messages.ReleaseIndication m)) v = (v, refl)
took_by station target (Some (messages.ChannelRequired m)) v = (v, refl)
took_by station target (Some (messages.ChannelActivationAck m)) v = (v, refl)
took_by station target (Some (messages.ChannelActivationNack m)) v = (v, refl)
took_by station target (Some (messages.ConnectionFailure m)) v = (v, refl)
took_by station target (Some (messages.HandoverDetection m)) v = (v, refl)
took_by station target (Some (messages.MeasurementResult m)) v = (v, refl)
took_by station target (Some (messages.RfChannelReleaseAck channel)) v = (v, refl)

-- the first line
abbrev left_by : Actors → ℕ → List OutboxEntry → Actors
left_by w station others = with_outbox station others w

first_is : (w : Actors) (station : ℕ) (entry : OutboxEntry) → first_in (outbox_of w station) ≡ Some entry
    → took_first station (outbox_of w station) w ≡ took station entry.target (rsl_in entry.out.frame) (with_relay w (record (relay_of w) { links = taken_of station w.links }))
first_is w station entry first = by_lines (outbox_of w station) refl first where
  by_lines : (lines : List OutboxEntry) → outbox_of w station ≡ lines → first_in lines ≡ Some entry
      → took_first station lines w ≡ took station entry.target (rsl_in entry.out.frame) (with_outbox station (behind_first (outbox_of w station)) w)
  by_lines [] are h = absurd cc
  by_lines (e ∷ others) are h =
      ap (λ (x : OutboxEntry). took station x.target (rsl_in x.out.frame) (left_by w station others)) (some_same h)
      ∙ ap (λ (lines : List OutboxEntry). took station entry.target (rsl_in entry.out.frame) (left_by w station (behind_first lines))) (sym are)

when_up : (w : Actors) (station : ℕ) →
    is_station_up w station ≡ true →
    after_base_takes w station ≡ took_first station (outbox_of w station) w
when_up w station up = ap (λ (b : Bool). if b then took_first station (outbox_of w station) w else None) up

pub line_down : (w : Actors) (station : ℕ) → is_station_up w station ≡ false → Takes w (after_base_takes w station) false w
line_down w station up = idle w _ (ap (λ (b : Bool). if b then took_first station (outbox_of w station) w else None) up)

-- none is taken
pub line_refused : (w : Actors) (station : ℕ) →
    is_station_up w station ≡ true →
    can_take w station (first_in (outbox_of w station)) ≡ false →
    Takes w (after_base_takes w station) false w
line_refused w station up cannot = idle w _ (when_up w station up ∙ by_lines (outbox_of w station) cannot) where
  is_none : (b : Bool) (next : Actors) → not b ≡ false → (if b then None else Some next) ≡ None
  is_none true next h = refl
  is_none false next h = absurd cc

  by_lines : (lines : List OutboxEntry) → can_take w station (first_in lines) ≡ false → took_first station lines w ≡ None
  by_lines [] h = refl
  by_lines (e ∷ others) h =
      let all : Took station e.target (rsl_in e.out.frame) (left_by w station others) = took_by station e.target (rsl_in e.out.frame) (left_by w station others) in
      all.1 ∙ is_none (is_spent w station (activated_by (rsl_in e.out.frame))) all.0 h

-- it is one that can be taken
pub not_spent : (w : Actors) (station : ℕ) (entry : OutboxEntry) → can_take w station (first_in (outbox_of w station)) ≡ true → first_in (outbox_of w station) ≡ Some entry
    → is_spent w station (activated_by (rsl_in entry.out.frame)) ≡ false
not_spent w station entry can first = by_not (is_spent w station (activated_by (rsl_in entry.out.frame))) (sym (ap (can_take w station) first) ∙ can) where
  by_not : (b : Bool) → not b ≡ true → b ≡ false
  by_not true h = absurd cc
  by_not false h = refl

pub line_there : (w : Actors) (station : ℕ) →
    can_take w station (first_in (outbox_of w station)) ≡ true →
    first_in (outbox_of w station) ≡ None →
    ⊥
line_there w station can none = absurd (wrong (sym (ap (can_take w station) none) ∙ can)) where
  wrong : false ≡ true → ⊥
  wrong e = cc

pub line_done : (w : Actors) (station : ℕ) (entry : OutboxEntry) (mid : RelayState) (new : Actors) → is_station_up w station ≡ true → first_in (outbox_of w station) ≡ Some entry
    → mid ≡ record (relay_of w) { links = taken_of station w.links } → took station entry.target (rsl_in entry.out.frame) (with_relay w mid) ≡ Some new → Takes w (after_base_takes w station) true new
line_done w station entry mid new up first left takes =
    done w new _ new (when_up w station up ∙ first_is w station entry first ∙ ap (λ (r : RelayState). took station entry.target (rsl_in entry.out.frame) (with_relay w r)) (sym left) ∙ takes) refl

pub line_wants : {X : Type 0} (r : Result X Memory) (w : Actors) (station : ℕ) (entry : OutboxEntry) → is_station_up w station ≡ true → can_take w station (first_in (outbox_of w station)) ≡ true → first_in (outbox_of w station) ≡ Some entry
    → OnErr r (IsSome (after_base_takes w station))
line_wants r w station entry up can first =
    let v : Actors = with_relay w (record (relay_of w) { links = taken_of station w.links }) in
    let all : Took station entry.target (rsl_in entry.out.frame) v = took_by station entry.target (rsl_in entry.out.frame) v in
    wants r _ all.0
    (when_up w station up ∙ first_is w station entry first ∙ all.1 ∙ ap (λ (b : Bool). if b then None else Some all.0) (not_spent w station entry can first))
