-- SPDX-License-Identifier: MIT OR Apache-2.0
-- The acts of mobiles, and the messages that a station takes, are the same with the switch's link
-- broken as with the link still up.
use Rattle.std.proofs.Common.{◌≡◌, ◌≢◌, ℕ, ◌==◌, ◌&&◌, not, Bool, true, false, if◌then◌else◌, List, [], ◌∷◌, ◌++◌, length}
use Rattle.std.proofs.Common.{Option, Some, None, Result, Ok, refl, ap, ◌∙◌, get_or}
use Rattle.std.proofs.lemmas.Bool.{eqb-false}
use Rattle.std.specs.Option.{is_none, option_and_then}
use Rattle.std.specs.Prelude.{option_map}
use Rattle.conn_messages.specs.declared.channel.Place.{Place}
use Rattle.conn_messages.specs.declared.parameters.TheConstants.{SWITCH_LINK}
use Rattle.controller_model.specs.Controller.{place_at}
use Rattle.dtap_codec.specs.declared.report.TheConstants.{REPORT_LENGTH}
use Rattle.dtap_codec.specs.declared.rr.RrMessage.{RrMessage}
use Rattle.dtap_codec.specs.declared.rr.RrMessage.TheVariants.{ImmediateAssignment}
use Rattle.dtap_codec.specs.declared.rr_fault.RrFault.{RrFault}
use Rattle.dtap_codec.specs.declared.sapi.Sapi.{Sapi}
use Rattle.dtap_codec.specs.declared.sapi.Sapi.TheVariants.{Three, Zero}
use Rattle.dtap_codec.specs.RrReading.{rr_reading}
use Rattle.link_model.specs.declared.fault.LinkFault.{LinkFault}
use Rattle.link_model.specs.Base.{refusal_of_activate}
use Rattle.mobile_end.specs.Mobile.{after_queue, frame_answer, is_acknowledged, refusal_of_connect, refusal_of_send}
use Rattle.rsl_codec.specs.ChannelNumber.{is_channel}
use Rattle.rsl_codec.specs.declared.rsl.Rsl.{Rsl}
use Rattle.rsl_codec.specs.declared.rsl.Rsl.TheVariants.{ChannelActivation, DataRequest, EstablishRequest, ImmediateAssignCommand}
use Rattle.rsl_codec.specs.declared.rsl.Rsl.TheVariants.{RfChannelRelease}
use Rattle.ruled_relay.specs.declared.item.Item.{Item}
use Rattle.world_model.specs.declared.event.Event.{Event}
use Rattle.world_model.specs.declared.event.Event.TheVariants.{AirAck, AirDown, AirDownLost, AirUp, Arrive, Connect}
use Rattle.world_model.specs.declared.event.Event.TheVariants.{Move, Report, Return, Touch, Upper}
use Rattle.world_model.specs.declared.line.AirMessage.{AirMessage}
use Rattle.world_model.specs.declared.line.OutboxEntry.{OutboxEntry}
use Rattle.world_model.specs.declared.limits.TheConstants.{MAX_TENURE}
use Rattle.world_model.specs.declared.seat.Seat.{Seat}
use Rattle.world_model.specs.declared.seat.Seat.TheVariants.{Asking, Moving, On}
use Rattle.world_model.specs.declared.seat.Tenure.{Tenure}
use Rattle.world_model.specs.Life.{event_after}
use Rattle.world_model.specs.Mobiles.{acknowledged, after_connecting, arrived, brought, brought_down, brought_up, by_mobile, channel_required, complete}
use Rattle.world_model.specs.Mobiles.{connected, failure, frame_in, hearing, ignored, is_new, is_to_handover, left, may_send, moved, only_if}
use Rattle.world_model.specs.Mobiles.{reported, reported_at, returned, seated, sent_by, taken_from_air, touched, with_message_made, handover_detection}
use Rattle.world_model.specs.Stations.{activated, activated_unless, after_base_takes, aired, assigned, assigned_from, assigned_to}
use Rattle.world_model.specs.Stations.{rsl_in, took, took_first}
use Rattle.world_model.specs.World.{Actors, Link, Mobile, base_of, is_active_at, is_reached, is_station_up, is_up, mobile_of, outbox_of, spot_at}
use Rattle.world_model.specs.World.{tenure_at, with_mobile, with_outbox, with_spot}
use Rattle.world_model.proofs.Leads.{and_left, is_aerial}
use Rattle.relay_order.proofs.DelayedHeld.{held, held_other, held_reached, held_station_up, with_outbox_held}

-- ---- what is asked first

only_held : (items : List Item) (a b : Bool) (w : Actors) → a ≡ b → only_if a (held items w) ≡ option_map (held items) (only_if b w)
only_held items a b w same = ap (λ (c : Bool). only_if c (held items w)) same ∙ by b where
  by : (c : Bool) → only_if c (held items w) ≡ option_map (held items) (only_if c w)
  by true = refl
  by false = refl

if_held : (items : List Item) (a b : Bool) (x y : Option Actors) → a ≡ b → (b ≡ true → x ≡ option_map (held items) y)
    → (if a then x else None) ≡ option_map (held items) (if b then y else None)
if_held items a b x y same is = ap (λ (c : Bool). if c then x else None) same ∙ by b is where
  by : (c : Bool) → (c ≡ true → x ≡ option_map (held items) y) → (if c then x else None) ≡ option_map (held items) (if c then y else None)
  by true there = there refl
  by false there = refl

found_held : (items : List Item) (o : Option Mobile) (act acted : Mobile → Option Actors)
    → ((p : Mobile) → acted p ≡ option_map (held items) (act p))
    → option_and_then acted o ≡ option_map (held items) (option_and_then act o)
found_held items None act acted h = refl
found_held items (Some p) act acted h = h p

-- what is the same where the tenure is reached
reached_and : (items : List Item) (w : Actors) (t : Tenure) (b : Bool) → is_reached (held items w) t && b ≡ is_reached w t && b
reached_and items w t b = ap (λ (c : Bool). c && b) (held_reached items w t)

-- ---- what a mobile does

upper_held : (items : List Item) (w : Actors) (sapi : Sapi) (message : List ℕ) (p : Mobile)
    → sent_by (held items w) sapi message p ≡ option_map (held items) (sent_by w sapi message p)
upper_held items w sapi message p =
    only_held items (may_send p.seat && is_none (refusal_of_send p.end sapi message)) (may_send p.seat && is_none (refusal_of_send p.end sapi message)) (with_mobile (record p { end = after_queue p.end sapi message }) w) refl

pub connecting_held : (items : List Item) (w : Actors) (number n : ℕ) (initial : List ℕ) (accepts : Bool)
    → after_connecting (held items w) number n initial accepts ≡ option_map (held items) (after_connecting w number n initial accepts)
connecting_held items w number n initial accepts =
    only_held items (is_new w number && is_station_up (held items w) n && is_none (refusal_of_connect (Some initial))) (is_new w number && is_station_up w n && is_none (refusal_of_connect (Some initial)))
    (with_message_made n (channel_required number) (record w { mobiles = w.mobiles ++ connected w.modulus number initial accepts ∷ [] }))
    (ap (λ (b : Bool). is_new w number && b && is_none (refusal_of_connect (Some initial))) (held_station_up items w n))

brought_held : (items : List Item) (w : Actors) (p : Mobile) (at : Place) (sapi : Sapi) (frame : List ℕ)
    → brought (held items w) p at sapi frame ≡ held items (brought w p at sapi frame)
brought_held items w p at Zero frame = refl
brought_held items w p at Three frame = refl

framed_held : (items : List Item) (w : Actors) (p : Mobile) (tenure : Tenure) (sapi : Sapi) (o : Option (List ℕ))
    → option_and_then (λ frame. only_if (is_reached (held items w) tenure) (brought (held items w) p tenure.at sapi frame)) o
    ≡ option_map (held items) (option_and_then (λ frame. only_if (is_reached w tenure) (brought w p tenure.at sapi frame)) o)
framed_held items w p tenure sapi None = refl
framed_held items w p tenure sapi (Some frame) =
    ap (only_if (is_reached (held items w) tenure)) (brought_held items w p tenure.at sapi frame)
    ∙ only_held items (is_reached (held items w) tenure) (is_reached w tenure) (brought w p tenure.at sapi frame) (held_reached items w tenure)

brought_up_held : (items : List Item) (w : Actors) (sapi : Sapi) (p : Mobile) (seat : Seat)
    → brought_up (held items w) sapi p seat ≡ option_map (held items) (brought_up w sapi p seat)
brought_up_held items w sapi p (On tenure command) = framed_held items w p tenure sapi (frame_in (frame_answer p.end sapi))
brought_up_held items w sapi p _ = refl

acknowledged_held : (items : List Item) (w : Actors) (sapi : Sapi) (p : Mobile) (seat : Seat)
    → acknowledged (held items w) sapi p seat ≡ option_map (held items) (acknowledged w sapi p seat)
acknowledged_held items w sapi p (On tenure command) =
    only_held items (is_reached (held items w) tenure && is_acknowledged p.end sapi) (is_reached w tenure && is_acknowledged p.end sapi) _
    (reached_and items w tenure (is_acknowledged p.end sapi))
acknowledged_held items w sapi p _ = refl

taken_held : (items : List Item) (w : Actors) (hears : Mobile → AirMessage → Mobile) (p : Mobile) (at : Place) (air : List AirMessage)
    → taken_from_air (held items w) hears p at air ≡ option_map (held items) (taken_from_air w hears p at air)
taken_held items w hears p at [] = refl
taken_held items w hears p at (first ∷ others) = refl

brought_down_held : (items : List Item) (w : Actors) (hears : Mobile → AirMessage → Mobile) (p : Mobile) (seat : Seat)
    → brought_down (held items w) hears p seat ≡ option_map (held items) (brought_down w hears p seat)
brought_down_held items w hears p (On tenure command) =
    if_held items (is_reached (held items w) tenure) (is_reached w tenure) _ _ (held_reached items w tenure)
    (λ _. taken_held items w hears p tenure.at (spot_at w tenure.at).air)
brought_down_held items w hears p _ = refl

moved_held : (items : List Item) (w : Actors) (p : Mobile) (seat : Seat) →
    moved (held items w) p seat ≡ option_map (held items) (moved w p seat)
moved_held items w p (On tenure (Some command)) =
    only_held items (is_reached (held items w) tenure) (is_reached w tenure) (left w p tenure command) (held_reached items w tenure)
moved_held items w p _ = refl

touched_held : (items : List Item) (w : Actors) (seat : Seat) → touched (held items w) seat ≡ option_map (held items) (touched w seat)
touched_held items w (Moving from command) =
    only_held items (is_to_handover command.change && is_reached (held items w) command.target) (is_to_handover command.change && is_reached w command.target)
    (with_message_made command.target.at.station (handover_detection command.target.at.number) w)
    (ap (λ (b : Bool). is_to_handover command.change && b) (held_reached items w command.target))
touched_held items w _ = refl

arrived_held : (items : List Item) (w : Actors) (p : Mobile) (seat : Seat) →
    arrived (held items w) p seat ≡ option_map (held items) (arrived w p seat)
arrived_held items w p (Moving from command) =
    only_held items (is_reached (held items w) command.target) (is_reached w command.target) (seated w p command.target (complete command.change)) (held_reached items w command.target)
arrived_held items w p _ = refl

returned_held : (items : List Item) (w : Actors) (p : Mobile) (seat : Seat) →
    returned (held items w) p seat ≡ option_map (held items) (returned w p seat)
returned_held items w p (Moving from command) =
    only_held items (is_reached (held items w) from) (is_reached w from) (seated w p from (failure command.change)) (held_reached items w from)
returned_held items w p _ = refl

reported_held : (items : List Item) (w : Actors) (report : List ℕ) (seat : Seat)
    → reported (held items w) report seat ≡ option_map (held items) (reported w report seat)
reported_held items w report (On tenure command) =
    only_held items (is_reached (held items w) tenure && (length report == REPORT_LENGTH)) (is_reached w tenure && (length report == REPORT_LENGTH)) (reported_at w tenure.at report)
    (reached_and items w tenure (length report == REPORT_LENGTH))
reported_held items w report _ = refl

by_mobile_held : (items : List Item) (w : Actors) (number : ℕ) (act acted : Mobile → Option Actors)
    → ((p : Mobile) → acted p ≡ option_map (held items) (act p))
    → by_mobile (held items w) number acted ≡ option_map (held items) (by_mobile w number act)
by_mobile_held items w number act acted h = found_held items (mobile_of w number) act acted h

pub air_held : (items : List Item) (w : Actors) (event : Event) → is_aerial event ≡ true
    → event_after (held items w) event ≡ option_map (held items) (event_after w event)
unfolding event_after
air_held items w (Upper number sapi message) is = by_mobile_held items w number (sent_by w sapi message) (sent_by (held items w) sapi message) (upper_held items w sapi message)
air_held items w (Connect number station initial accepts) is = connecting_held items w number station initial accepts
air_held items w (AirUp number sapi) is = by_mobile_held items w number (λ p. brought_up w sapi p p.seat) (λ p. brought_up (held items w) sapi p p.seat) (λ p. brought_up_held items w sapi p p.seat)
air_held items w (AirAck number sapi) is = by_mobile_held items w number (λ p. acknowledged w sapi p p.seat) (λ p. acknowledged (held items w) sapi p p.seat) (λ p. acknowledged_held items w sapi p p.seat)
air_held items w (AirDown number) is = by_mobile_held items w number (λ p. brought_down w hearing p p.seat) (λ p. brought_down (held items w) hearing p p.seat) (λ p. brought_down_held items w hearing p p.seat)
air_held items w (AirDownLost number) is = by_mobile_held items w number (λ p. brought_down w ignored p p.seat) (λ p. brought_down (held items w) ignored p p.seat) (λ p. brought_down_held items w ignored p p.seat)
air_held items w (Move number) is = by_mobile_held items w number (λ p. moved w p p.seat) (λ p. moved (held items w) p p.seat) (λ p. moved_held items w p p.seat)
air_held items w (Touch number) is = by_mobile_held items w number (λ p. touched w p.seat) (λ p. touched (held items w) p.seat) (λ p. touched_held items w p.seat)
air_held items w (Arrive number) is = by_mobile_held items w number (λ p. arrived w p p.seat) (λ p. arrived (held items w) p p.seat) (λ p. arrived_held items w p p.seat)
air_held items w (Return number) is = by_mobile_held items w number (λ p. returned w p p.seat) (λ p. returned (held items w) p p.seat) (λ p. returned_held items w p p.seat)
air_held items w (Report number report) is = by_mobile_held items w number (λ p. reported w report p.seat) (λ p. reported (held items w) report p.seat) (λ p. reported_held items w report p.seat)
air_held items w _ is = absurd cc

-- ---- what a station takes

activated_held : (items : List Item) (w : Actors) (at : Place) (refusal : Option LinkFault)
    → activated_unless refusal at (held items w) ≡ held items (activated_unless refusal at w)
activated_held items w at (Some fault) = refl
activated_held items w at None = refl

unless_held : (items : List Item) (b : Bool) (v w : Actors) → v ≡ held items w
    → (if b then None else Some v) ≡ option_map (held items) (if b then None else Some w)
unless_held items true v w is = refl
unless_held items false v w is = ap Some is

seated_held : (items : List Item) (w : Actors) (seat : Seat) (tenure : Tenure) (p : Mobile)
    → assigned_from seat tenure p (held items w) ≡ held items (assigned_from seat tenure p w)
seated_held items w Asking tenure p = refl
seated_held items w _ tenure p = refl

assigned_to_held : (items : List Item) (w : Actors) (o : Option Mobile) (tenure : Tenure)
    → assigned_to o tenure (held items w) ≡ held items (assigned_to o tenure w)
assigned_to_held items w None tenure = refl
assigned_to_held items w (Some p) tenure = seated_held items w p.seat tenure p

channel_held : (items : List Item) (w : Actors) (o : Option Mobile) (at : Place) (b : Bool)
    → (if b then assigned_to o (tenure_at w at) (held items w) else held items w) ≡ held items (if b then assigned_to o (tenure_at w at) w else w)
channel_held items w o at true = assigned_to_held items w o (tenure_at w at)
channel_held items w o at false = refl

assigned_held : (items : List Item) (w : Actors) (n : ℕ) (reading : Result RrMessage RrFault)
    → assigned n reading (held items w) ≡ held items (assigned n reading w)
assigned_held items w n (Ok (ImmediateAssignment channel request advance)) =
    channel_held items w (mobile_of w (get_or request 0 0)) (place_at n channel.channel.0) (is_channel channel.channel.0)
assigned_held items w n _ = refl

aired_held : (items : List Item) (w : Actors) (at : Place) (message : AirMessage)
    → aired at message (held items w) ≡ held items (aired at message w)
aired_held items w at message = by (is_active_at w at) where
  by : (b : Bool)
      → (if b then with_spot at (record (spot_at w at) { air = (spot_at w at).air ++ message ∷ [] }) (held items w) else held items w) ≡ held items (if b then with_spot at (record (spot_at w at) { air = (spot_at w at).air ++ message ∷ [] }) w else w)
  by true = refl
  by false = refl

took_held : (items : List Item) (w : Actors) (n : ℕ) (target : Option Tenure) (message : Option Rsl)
    → took n target message (held items w) ≡ option_map (held items) (took n target message w)
took_held items w n target (Some (ChannelActivation a)) =
    unless_held items ((spot_at w (place_at n a.channel)).tenure == MAX_TENURE) (activated (place_at n a.channel) (held items w)) (activated (place_at n a.channel) w)
    (activated_held items w (place_at n a.channel) (refusal_of_activate (base_of w n) a.channel))
took_held items w n target (Some (ImmediateAssignCommand i)) = ap Some (assigned_held items w n (rr_reading i.information))
took_held items w n target (Some (DataRequest d)) = ap Some (aired_held items w (place_at n d.channel) (record { message = d.l3; target = target }))
took_held items w n target (Some (EstablishRequest l)) = refl
took_held items w n target (Some (RfChannelRelease channel)) = refl
took_held items w n target _ = refl

took_first_held : (items : List Item) (w : Actors) (n : ℕ) (entries : List OutboxEntry) → n ≢ SWITCH_LINK
    → took_first n entries (held items w) ≡ option_map (held items) (took_first n entries w)
took_first_held items w n [] differs = refl
took_first_held items w n (first ∷ others) differs =
    ap (took n first.target (rsl_in first.out.frame)) (with_outbox_held items w n others differs)
    ∙ took_held items (with_outbox n others w) n first.target (rsl_in first.out.frame)

not_true : (b : Bool) → not b ≡ true → b ≡ false
not_true true is = absurd cc
not_true false is = refl

pub station_is : (w : Actors) (n : ℕ) → is_station_up w n ≡ true → n ≢ SWITCH_LINK
station_is w n up = eqb-false n SWITCH_LINK (not_true (n == SWITCH_LINK) (and_left (not (n == SWITCH_LINK)) (is_up w n) up))

pub takes_held : (items : List Item) (w : Actors) (n : ℕ) →
    after_base_takes (held items w) n ≡ option_map (held items) (after_base_takes w n)
takes_held items w n =
    if_held items (is_station_up (held items w) n) (is_station_up w n) _ _ (held_station_up items w n)
    (λ up. ap (λ (l : Link). took_first n l.outbox (held items w)) (held_other items w n (station_is w n up))
    ∙ took_first_held items w n (outbox_of w n) (station_is w n up))
