-- SPDX-License-Identifier: MIT OR Apache-2.0
-- The events of a mobile, and the break of a link that isn't that of its station, in either order.
use Rattle.std.proofs.Common.{◌≡◌, ◌≢◌, ℕ, ◌==◌, ◌&&◌, not, Bool, true, false, if◌then◌else◌, List, [], ◌∷◌, Option, Some, None, refl, sym}
use Rattle.std.proofs.Common.{ap, ◌∙◌, subst, inl, inr, get_or}
use Rattle.std.proofs.lemmas.Bool.{cases_Bool, eqb-false}
use Rattle.std.specs.Option.{option_and_then}
use Rattle.std.specs.Prelude.{option_map}
use Rattle.conn_messages.specs.declared.channel.Place.{Place}
use Rattle.conn_messages.specs.declared.parameters.TheConstants.{SWITCH_LINK}
use Rattle.dtap_codec.specs.declared.sapi.Sapi.{Sapi}
use Rattle.dtap_codec.specs.declared.sapi.Sapi.TheVariants.{Three, Zero}
use Rattle.mobile_end.specs.Mobile.{after_queue, frame_answer, is_acknowledged, refusal_of_send}
use Rattle.world_model.specs.declared.line.AirMessage.{AirMessage}
use Rattle.world_model.specs.declared.seat.Seat.{Seat}
use Rattle.world_model.specs.declared.seat.Seat.TheVariants.{On}
use Rattle.world_model.specs.declared.seat.Tenure.{Tenure}
use Rattle.world_model.specs.Mobiles.{acknowledged, after_air_ack, after_air_up, after_upper, brought, brought_down, brought_up, by_mobile}
use Rattle.world_model.specs.Mobiles.{frame_in, framed, may_send, only_if, sent_by, short_message_brought}
use Rattle.world_model.specs.Mobiles.{signalling_brought, taken_from_air}
use Rattle.world_model.specs.World.{Actors, Link, Mobile, Station, base_of, broken_link, is_active_at, is_reached, is_up, mobile_of}
use Rattle.world_model.specs.World.{new_spot, spot_at, station_of, with_base, with_mobile, with_spot}
use Rattle.link_model.specs.Base.{is_active}
use Rattle.std.specs.Option.{is_none}
use Rattle.world_model.proofs.Leads.{and_left}
use Rattle.world.specs.Beside.{is_off, sits_off}
use Rattle.world.proofs.Cut.{cut, link_beside, station_beside, with_base_beside, with_spot_beside}

-- ---- what is asked first

pub not_true : (b : Bool) → not b ≡ true → b ≡ false
not_true true is = absurd cc
not_true false is = refl

pub only_beside : (source : ℕ) (a b : Bool) (v w : Actors) → a ≡ b → (b ≡ true → v ≡ cut source w)
    → only_if a v ≡ option_map (cut source) (only_if b w)
only_beside source a b v w same is = ap (λ (c : Bool). only_if c v) same ∙ by b is where
  by : (c : Bool) → (c ≡ true → v ≡ cut source w) → only_if c v ≡ option_map (cut source) (only_if c w)
  by true there = ap Some (there refl)
  by false there = refl

pub if_beside : (source : ℕ) (a b : Bool) (x y : Option Actors) → a ≡ b → (b ≡ true → x ≡ option_map (cut source) y)
    → (if a then x else None) ≡ option_map (cut source) (if b then y else None)
if_beside source a b x y same is = ap (λ (c : Bool). if c then x else None) same ∙ by b is where
  by : (c : Bool) → (c ≡ true → x ≡ option_map (cut source) y) → (if c then x else None) ≡ option_map (cut source) (if c then y else None)
  by true there = there refl
  by false there = refl

pub found_beside : (source : ℕ) (o : Option Mobile) (act acted : Mobile → Option Actors)
    → ((p : Mobile) → o ≡ Some p → acted p ≡ option_map (cut source) (act p))
    → option_and_then acted o ≡ option_map (cut source) (option_and_then act o)
found_beside source None act acted h = refl
found_beside source (Some p) act acted h = h p refl

pub seated_off : (source : ℕ) (o : Option Mobile) (p : Mobile) → is_off source (option_map (λ q. q.seat) o) ≡ true → o ≡ Some p
    → is_off source (Some p.seat) ≡ true
seated_off source o p off is = subst (λ (x : Option Mobile). is_off source (option_map (λ q. q.seat) x) ≡ true) is off

pub some_station : (n : ℕ) → not (n == SWITCH_LINK) ≡ true → n ≢ 0
some_station n is = eqb-false n SWITCH_LINK (not_true (n == SWITCH_LINK) is)

pub apart : (n source : ℕ) → not (n == source) ≡ true → n ≢ source
apart n source is = eqb-false n source (not_true (n == source) is)

pub reached_station : (w : Actors) (t : Tenure) → is_reached w t ≡ true → t.at.station ≢ 0
reached_station w t reached =
    some_station t.at.station
    (and_left (not (t.at.station == SWITCH_LINK)) (is_up w t.at.station)
    (and_left (not (t.at.station == SWITCH_LINK) && is_up w t.at.station) (is_active_at w t.at)
    (and_left (not (t.at.station == SWITCH_LINK) && is_up w t.at.station && is_active_at w t.at) ((spot_at w t.at).tenure == t.number) reached)))

reached_by : Bool → Link → Station → Tenure → Bool
reached_by at_switch link station t = not at_switch && link.up && is_active station.base.active t.at.number && ((get_or station.spots t.at.number new_spot).tenure == t.number)

pub reached_beside : (source : ℕ) (w : Actors) (t : Tenure) → t.at.station ≢ source → is_reached (cut source w) t ≡ is_reached w t
unfolding reached_by
reached_beside source w t differs =
    elim (cases_Bool (t.at.station == SWITCH_LINK)) [
      | inl is ↦
          ap (λ (b : Bool). reached_by b (get_or (cut source w).links t.at.station broken_link) (station_of (cut source w) t.at.station) t) is
          ∙ sym (ap (λ (b : Bool). reached_by b (get_or w.links t.at.station broken_link) (station_of w t.at.station) t) is)
      | inr is_not ↦
          ap (λ (l : Link). reached_by (t.at.station == SWITCH_LINK) l (station_of (cut source w) t.at.station) t) (link_beside source w t.at.station differs)
          ∙ ap (λ (s : Station). reached_by (t.at.station == SWITCH_LINK) (get_or w.links t.at.station broken_link) s t) (station_beside source w t.at.station (eqb-false t.at.station SWITCH_LINK is_not) differs)
    ]

-- ---- events

pub upper_beside : (source : ℕ) (w : Actors) (number : ℕ) (sapi : Sapi) (message : List ℕ)
    → after_upper (cut source w) number sapi message ≡ option_map (cut source) (after_upper w number sapi message)
upper_beside source w number sapi message =
    found_beside source (mobile_of w number) (sent_by w sapi message) (sent_by (cut source w) sapi message)
    (λ p is. only_beside source (may_send p.seat && is_none (refusal_of_send p.end sapi message)) (may_send p.seat && is_none (refusal_of_send p.end sapi message)) (with_mobile (record p { end = after_queue p.end sapi message }) (cut source w)) (with_mobile (record p { end = after_queue p.end sapi message }) w) refl (λ _. refl))

acknowledged_beside : (source : ℕ) (w : Actors) (sapi : Sapi) (p : Mobile) (seat : Seat) → is_off source (Some seat) ≡ true
    → acknowledged (cut source w) sapi p seat ≡ option_map (cut source) (acknowledged w sapi p seat)
acknowledged_beside source w sapi p (On tenure command) off =
    only_beside source (is_reached (cut source w) tenure && is_acknowledged p.end sapi) (is_reached w tenure && is_acknowledged p.end sapi) _ _
    (ap (λ (b : Bool). b && is_acknowledged p.end sapi) (reached_beside source w tenure (apart tenure.at.station source off))) (λ _. refl)
acknowledged_beside source w sapi p _ off = refl

pub air_ack_beside : (source : ℕ) (w : Actors) (number : ℕ) (sapi : Sapi) → sits_off source w number ≡ true
    → after_air_ack (cut source w) number sapi ≡ option_map (cut source) (after_air_ack w number sapi)
air_ack_beside source w number sapi off =
    found_beside source (mobile_of w number) (λ p. acknowledged w sapi p p.seat) (λ p. acknowledged (cut source w) sapi p p.seat)
    (λ p is. acknowledged_beside source w sapi p p.seat (seated_off source (mobile_of w number) p off is))

brought_beside : (source : ℕ) (w : Actors) (p : Mobile) (at : Place) (sapi : Sapi) (frame : List ℕ) → at.station ≢ 0 → at.station ≢ source
    → brought (cut source w) p at sapi frame ≡ cut source (brought w p at sapi frame)
brought_beside source w p at Zero frame some differs =
    ap (λ (s : Station). with_mobile (record (framed p Zero) { opens = false }) (with_base at.station (signalling_brought s.base at.number p.opens frame) (cut source w))) (station_beside source w at.station some differs)
    ∙ ap (with_mobile (record (framed p Zero) { opens = false })) (with_base_beside source w at.station (signalling_brought (base_of w at.station) at.number p.opens frame) some differs)
brought_beside source w p at Three frame some differs =
    ap (λ (s : Station). with_mobile (framed p Three) (with_spot at (record (get_or s.spots at.number new_spot) { sapi_three_up = true }) (with_base at.station (short_message_brought s.base at.number (get_or s.spots at.number new_spot).sapi_three_up frame) (cut source w)))) (station_beside source w at.station some differs)
    ∙ ap (λ (v : Actors). with_mobile (framed p Three) (with_spot at (record (spot_at w at) { sapi_three_up = true }) v)) (with_base_beside source w at.station (short_message_brought (base_of w at.station) at.number (spot_at w at).sapi_three_up frame) some differs)
    ∙ ap (with_mobile (framed p Three)) (with_spot_beside source (with_base at.station (short_message_brought (base_of w at.station) at.number (spot_at w at).sapi_three_up frame) w) at (record (spot_at w at) { sapi_three_up = true }) some differs)

framed_beside : (source : ℕ) (w : Actors) (sapi : Sapi) (p : Mobile) (tenure : Tenure) (o : Option (List ℕ)) → tenure.at.station ≢ source
    → option_and_then (λ frame. only_if (is_reached (cut source w) tenure) (brought (cut source w) p tenure.at sapi frame)) o ≡ option_map (cut source) (option_and_then (λ frame. only_if (is_reached w tenure) (brought w p tenure.at sapi frame)) o)
framed_beside source w sapi p tenure None differs = refl
framed_beside source w sapi p tenure (Some frame) differs =
    only_beside source (is_reached (cut source w) tenure) (is_reached w tenure) (brought (cut source w) p tenure.at sapi frame) (brought w p tenure.at sapi frame) (reached_beside source w tenure differs)
    (λ reached. brought_beside source w p tenure.at sapi frame (reached_station w tenure reached) differs)

brought_up_beside : (source : ℕ) (w : Actors) (sapi : Sapi) (p : Mobile) (seat : Seat) → is_off source (Some seat) ≡ true
    → brought_up (cut source w) sapi p seat ≡ option_map (cut source) (brought_up w sapi p seat)
brought_up_beside source w sapi p (On tenure command) off = framed_beside source w sapi p tenure (frame_in (frame_answer p.end sapi)) (apart tenure.at.station source off)
brought_up_beside source w sapi p _ off = refl

pub air_up_beside : (source : ℕ) (w : Actors) (number : ℕ) (sapi : Sapi) → sits_off source w number ≡ true
    → after_air_up (cut source w) number sapi ≡ option_map (cut source) (after_air_up w number sapi)
air_up_beside source w number sapi off =
    found_beside source (mobile_of w number) (λ p. brought_up w sapi p p.seat) (λ p. brought_up (cut source w) sapi p p.seat)
    (λ p is. brought_up_beside source w sapi p p.seat (seated_off source (mobile_of w number) p off is))

taken_beside : (source : ℕ) (w : Actors) (hears : Mobile → AirMessage → Mobile) (p : Mobile) (at : Place) (air : List AirMessage)
    → at.station ≢ 0 → at.station ≢ source
    → taken_from_air (cut source w) hears p at air ≡ option_map (cut source) (taken_from_air w hears p at air)
taken_beside source w hears p at [] some differs = refl
taken_beside source w hears p at (first ∷ others) some differs =
    ap (λ (s : Station). Some (with_mobile (hears p first) (with_spot at (record (get_or s.spots at.number new_spot) { air = others }) (cut source w)))) (station_beside source w at.station some differs)
    ∙ ap (λ (v : Actors). Some (with_mobile (hears p first) v)) (with_spot_beside source w at (record (spot_at w at) { air = others }) some differs)

brought_down_beside : (source : ℕ) (w : Actors) (hears : Mobile → AirMessage → Mobile) (p : Mobile) (seat : Seat)
    → is_off source (Some seat) ≡ true → brought_down (cut source w) hears p seat ≡ option_map (cut source) (brought_down w hears p seat)
brought_down_beside source w hears p (On tenure command) off =
    if_beside source (is_reached (cut source w) tenure) (is_reached w tenure) _ _ (reached_beside source w tenure (apart tenure.at.station source off))
    (λ reached. ap (λ (s : Station). taken_from_air (cut source w) hears p tenure.at (get_or s.spots tenure.at.number new_spot).air) (station_beside source w tenure.at.station (reached_station w tenure reached) (apart tenure.at.station source off))
    ∙ taken_beside source w hears p tenure.at (spot_at w tenure.at).air (reached_station w tenure reached) (apart tenure.at.station source off))
brought_down_beside source w hears p _ off = refl

-- what it takes from the air, or what is lost there
pub air_down_beside : (source : ℕ) (w : Actors) (number : ℕ) (hears : Mobile → AirMessage → Mobile) → sits_off source w number ≡ true
    → by_mobile (cut source w) number (λ p. brought_down (cut source w) hears p p.seat) ≡ option_map (cut source) (by_mobile w number (λ p. brought_down w hears p p.seat))
air_down_beside source w number hears off =
    found_beside source (mobile_of w number) (λ p. brought_down w hears p p.seat) (λ p. brought_down (cut source w) hears p p.seat)
    (λ p is. brought_down_beside source w hears p p.seat (seated_off source (mobile_of w number) p off is))
