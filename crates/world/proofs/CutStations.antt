-- SPDX-License-Identifier: MIT OR Apache-2.0
-- A station that takes an entry of its outbox, and the break of another link, in either order.
use Rattle.std.proofs.Common.{◌≡◌, ◌≢◌, ℕ, ◌==◌, ◌&&◌, not, Bool, true, false, if◌then◌else◌, List, [], ◌∷◌, ◌++◌, Option, Some, None}
use Rattle.std.proofs.Common.{Result, Ok, refl, ap, ◌∙◌, get_or}
use Rattle.std.specs.Prelude.{option_map}
use Rattle.conn_messages.specs.declared.channel.Place.{Place}
use Rattle.conn_messages.specs.declared.parameters.TheConstants.{SWITCH_LINK}
use Rattle.controller_model.specs.Controller.{place_at}
use Rattle.dtap_codec.specs.declared.rr.RrMessage.{RrMessage}
use Rattle.dtap_codec.specs.declared.rr.RrMessage.TheVariants.{ImmediateAssignment}
use Rattle.dtap_codec.specs.declared.rr_fault.RrFault.{RrFault}
use Rattle.dtap_codec.specs.RrReading.{rr_reading}
use Rattle.link_model.specs.declared.fault.LinkFault.{LinkFault}
use Rattle.link_model.specs.BaseState.{BaseState}
use Rattle.link_model.specs.Base.{after_activate, after_release, is_active, refusal_of_activate}
use Rattle.rsl_codec.specs.declared.rsl.Rsl.{Rsl}
use Rattle.rsl_codec.specs.declared.rsl.Rsl.TheVariants.{ChannelActivation, DataRequest, EstablishRequest, ImmediateAssignCommand}
use Rattle.rsl_codec.specs.declared.rsl.Rsl.TheVariants.{RfChannelRelease}
use Rattle.rsl_codec.specs.ChannelNumber.{is_channel}
use Rattle.world_model.specs.declared.line.AirMessage.{AirMessage}
use Rattle.world_model.specs.declared.line.OutboxEntry.{OutboxEntry}
use Rattle.world_model.specs.declared.limits.TheConstants.{MAX_TENURE}
use Rattle.world_model.specs.declared.seat.Seat.{Seat}
use Rattle.world_model.specs.declared.seat.Seat.TheVariants.{Asking}
use Rattle.world_model.specs.declared.seat.Tenure.{Tenure}
use Rattle.world_model.specs.Mobiles.{with_message_made}
use Rattle.world_model.specs.Stations.{accepts, activated, activated_unless, after_base_takes, aired, answered, asked_for_link, assigned}
use Rattle.world_model.specs.Stations.{assigned_from, assigned_to, link_answer, mobile_on, new_tenure, released, rsl_in, took, took_first}
use Rattle.world_model.specs.World.{Actors, Link, Mobile, Spot, Station, base_of, is_active_at, is_station_up, is_up, mobile_of, new_spot}
use Rattle.world_model.specs.World.{outbox_of, spot_at, station_of, tenure_at, with_base, with_outbox, with_spot}
use Rattle.world_model.proofs.Leads.{and_left}
use Rattle.world.proofs.Cut.{cut, link_beside, made_beside, station_beside, tenure_beside, with_base_beside, with_outbox_beside}
use Rattle.world.proofs.Cut.{with_spot_beside}
use Rattle.world.proofs.CutMobiles.{if_beside, some_station}

-- a channel changed, and what the station has
both_beside : (source : ℕ) (w : Actors) (at : Place) (spot : Station → Spot) (base : Station → BaseState) → at.station ≢ 0
    → at.station ≢ source
    → with_spot at (spot (station_of (cut source w) at.station)) (with_base at.station (base (station_of (cut source w) at.station)) (cut source w)) ≡ cut source (with_spot at (spot (station_of w at.station)) (with_base at.station (base (station_of w at.station)) w))
both_beside source w at spot base some differs =
    ap (λ (s : Station). with_spot at (spot s) (with_base at.station (base s) (cut source w))) (station_beside source w at.station some differs)
    ∙ ap (with_spot at (spot (station_of w at.station))) (with_base_beside source w at.station (base (station_of w at.station)) some differs)
    ∙ with_spot_beside source (with_base at.station (base (station_of w at.station)) w) at (spot (station_of w at.station)) some differs

activated_unless_beside : (source : ℕ) (w : Actors) (at : Place) (refusal : Option LinkFault) → at.station ≢ 0 → at.station ≢ source
    → activated_unless refusal at (cut source w) ≡ cut source (activated_unless refusal at w)
activated_unless_beside source w at (Some fault) some differs = refl
activated_unless_beside source w at None some differs =
    both_beside source w at (λ s. new_tenure (get_or s.spots at.number new_spot)) (λ s. after_activate s.base at.number) some differs

activated_beside : (source : ℕ) (w : Actors) (at : Place) → at.station ≢ 0 → at.station ≢ source
    → activated at (cut source w) ≡ cut source (activated at w)
activated_beside source w at some differs =
    ap (λ (s : Station). activated_unless (refusal_of_activate s.base at.number) at (cut source w)) (station_beside source w at.station some differs)
    ∙ activated_unless_beside source w at (refusal_of_activate (base_of w at.station) at.number) some differs

unless_beside : (source : ℕ) (a b : Bool) (v w : Actors) → a ≡ b → v ≡ cut source w
    → (if a then None else Some v) ≡ option_map (cut source) (if b then None else Some w)
unless_beside source a b v w same is = ap (λ (c : Bool). if c then None else Some v) same ∙ by b where
  by : (c : Bool) → (if c then None else Some v) ≡ option_map (cut source) (if c then None else Some w)
  by true = refl
  by false = ap Some is

seated_beside : (source : ℕ) (w : Actors) (seat : Seat) (tenure : Tenure) (p : Mobile)
    → assigned_from seat tenure p (cut source w) ≡ cut source (assigned_from seat tenure p w)
seated_beside source w Asking tenure p = refl
seated_beside source w _ tenure p = refl

assigned_to_beside : (source : ℕ) (w : Actors) (o : Option Mobile) (tenure : Tenure)
    → assigned_to o tenure (cut source w) ≡ cut source (assigned_to o tenure w)
assigned_to_beside source w None tenure = refl
assigned_to_beside source w (Some p) tenure = seated_beside source w p.seat tenure p

channel_beside : (source : ℕ) (w : Actors) (o : Option Mobile) (at : Place) (b : Bool)
    → (if b then assigned_to o (tenure_at (cut source w) at) (cut source w) else cut source w) ≡ cut source (if b then assigned_to o (tenure_at w at) w else w)
channel_beside source w o at true = ap (λ (t : Tenure). assigned_to o t (cut source w)) (tenure_beside source w at) ∙ assigned_to_beside source w o (tenure_at w at)
channel_beside source w o at false = refl

assigned_beside : (source : ℕ) (w : Actors) (n : ℕ) (reading : Result RrMessage RrFault)
    → assigned n reading (cut source w) ≡ cut source (assigned n reading w)
assigned_beside source w n (Ok (ImmediateAssignment channel request advance)) =
    channel_beside source w (mobile_of w (get_or request 0 0)) (place_at n channel.channel.0) (is_channel channel.channel.0)
assigned_beside source w n _ = refl

aired_beside : (source : ℕ) (w : Actors) (at : Place) (message : AirMessage) → at.station ≢ 0 → at.station ≢ source
    → aired at message (cut source w) ≡ cut source (aired at message w)
aired_beside source w at message some differs =
    ap (λ (s : Station). if is_active s.base.active at.number then with_spot at (record (get_or s.spots at.number new_spot) { air = (get_or s.spots at.number new_spot).air ++ message ∷ [] }) (cut source w) else cut source w) (station_beside source w at.station some differs)
    ∙ by (is_active_at w at) where
      by : (b : Bool)
          → (if b then with_spot at (record (spot_at w at) { air = (spot_at w at).air ++ message ∷ [] }) (cut source w) else cut source w) ≡ cut source (if b then with_spot at (record (spot_at w at) { air = (spot_at w at).air ++ message ∷ [] }) w else w)
      by true = with_spot_beside source w at (record (spot_at w at) { air = (spot_at w at).air ++ message ∷ [] }) some differs
      by false = refl

answered_beside : (source : ℕ) (w : Actors) (answer : Bool) (at : Place) → at.station ≢ 0 → at.station ≢ source
    → answered answer at (cut source w) ≡ cut source (answered answer at w)
answered_beside source w answer at some differs =
    ap (λ (s : Station). with_message_made at.station (link_answer answer at.number) (with_spot at (record (get_or s.spots at.number new_spot) { sapi_three_up = answer }) (cut source w))) (station_beside source w at.station some differs)
    ∙ ap (with_message_made at.station (link_answer answer at.number)) (with_spot_beside source w at (record (spot_at w at) { sapi_three_up = answer }) some differs)
    ∙ made_beside source (with_spot at (record (spot_at w at) { sapi_three_up = answer }) w) at.station (link_answer answer at.number) some differs

asked_beside : (source : ℕ) (w : Actors) (at : Place) → at.station ≢ 0 → at.station ≢ source
    → asked_for_link at (cut source w) ≡ cut source (asked_for_link at w)
asked_beside source w at some differs =
    ap (λ (s : Station). answered (is_active s.base.active at.number && accepts (mobile_on w (tenure_at (cut source w) at))) at (cut source w)) (station_beside source w at.station some differs)
    ∙ ap (λ (t : Tenure). answered (is_active_at w at && accepts (mobile_on w t)) at (cut source w)) (tenure_beside source w at)
    ∙ answered_beside source w (is_active_at w at && accepts (mobile_on w (tenure_at w at))) at some differs

released_beside : (source : ℕ) (w : Actors) (at : Place) → at.station ≢ 0 → at.station ≢ source
    → released at (cut source w) ≡ cut source (released at w)
released_beside source w at some differs =
    both_beside source w at (λ s. record (get_or s.spots at.number new_spot) { sapi_three_up = false; air = [] }) (λ s. after_release s.base at.number) some differs

took_beside : (source : ℕ) (w : Actors) (n : ℕ) (target : Option Tenure) (message : Option Rsl) → n ≢ 0 → n ≢ source
    → took n target message (cut source w) ≡ option_map (cut source) (took n target message w)
took_beside source w n target (Some (ChannelActivation a)) some differs =
    unless_beside source ((spot_at (cut source w) (place_at n a.channel)).tenure == MAX_TENURE) ((spot_at w (place_at n a.channel)).tenure == MAX_TENURE) (activated (place_at n a.channel) (cut source w)) (activated (place_at n a.channel) w)
    (ap (λ (t : Tenure). t.number == MAX_TENURE) (tenure_beside source w (place_at n a.channel))) (activated_beside source w (place_at n a.channel) some differs)
took_beside source w n target (Some (ImmediateAssignCommand i)) some differs = ap Some (assigned_beside source w n (rr_reading i.information))
took_beside source w n target (Some (DataRequest d)) some differs = ap Some (aired_beside source w (place_at n d.channel) (record { message = d.l3; target = target }) some differs)
took_beside source w n target (Some (EstablishRequest l)) some differs = ap Some (asked_beside source w (place_at n l.channel) some differs)
took_beside source w n target (Some (RfChannelRelease channel)) some differs = ap Some (released_beside source w (place_at n channel) some differs)
took_beside source w n target _ some differs = refl

took_first_beside : (source : ℕ) (w : Actors) (n : ℕ) (entries : List OutboxEntry) → n ≢ 0 → n ≢ source
    → took_first n entries (cut source w) ≡ option_map (cut source) (took_first n entries w)
took_first_beside source w n [] some differs = refl
took_first_beside source w n (first ∷ others) some differs =
    ap (took n first.target (rsl_in first.out.frame)) (with_outbox_beside source w n others differs)
    ∙ took_beside source (with_outbox n others w) n first.target (rsl_in first.out.frame) some differs

pub base_takes_beside : (source : ℕ) (w : Actors) (n : ℕ) → n ≢ source
    → after_base_takes (cut source w) n ≡ option_map (cut source) (after_base_takes w n)
base_takes_beside source w n differs =
    if_beside source (is_station_up (cut source w) n) (is_station_up w n) _ _ (ap (λ (l : Link). not (n == SWITCH_LINK) && l.up) (link_beside source w n differs))
    (λ up. ap (λ (l : Link). took_first n l.outbox (cut source w)) (link_beside source w n differs)
    ∙ took_first_beside source w n (outbox_of w n) (some_station n (and_left (not (n == SWITCH_LINK)) (is_up w n) up)) differs)
