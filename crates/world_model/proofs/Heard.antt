-- SPDX-License-Identifier: MIT OR Apache-2.0
-- Over all events, the controller reads each message of a station as the station made it.
use Rattle.world_model.proofs.Prelude.{◌≡◌, ℕ, zero, suc, ◌+◌, ◌-◌, ◌<◌, ◌≤◌, ◌==◌, ◌&&◌, nat_eq, Bool, true, false, if◌then◌else◌, List}
use Rattle.world_model.proofs.Prelude.{[], ◌∷◌, map, length, get_or, Option, Some, None, option_to_list, refl, sym, subst, arith}
use Rattle.world_model.proofs.Prelude.{AllByRecursion, is_none, eqb-true, Sccp, AllByRecursion-append, Change, Assignment, Handover, Place}
use Rattle.world_model.proofs.Prelude.{SWITCH_LINK, place_at, Sapi, Zero, Three, BaseState, first_of_messages, first_message, after_tell}
use Rattle.world_model.proofs.Prelude.{Stage, New, Connected, lent_message, new_mobile, link_of, after_queue, refusal_of_connect}
use Rattle.world_model.proofs.Prelude.{refusal_of_send, frame_answer, MobileState, is_channel, Rsl, IsL3, Parameters, CellParameters}
use Rattle.world_model.proofs.Prelude.{result_ok, REPORT_LENGTH, frame_answer_at, rsl_reading, Event, BasePush, BaseDown, Tenure}
use Rattle.world_model.proofs.Prelude.{actors_after, actors_after_all, first_of, pushed, all_pushed, station_item, switch_item, HasSized}
use Rattle.world_model.proofs.Prelude.{rsl_in, Actors, Mobile, Spot, new_actors, stations_from, no_station, station_of, base_of, with_base}
use Rattle.world_model.proofs.Prelude.{spot_at, with_spot, with_mobile, mobile_of, is_up, is_station_up, is_reached}
use Rattle.ipa_framing.specs.declared.frame.Frame.{Frame}
use Rattle.ipa_framing.specs.declared.streams.TheConstants.{RSL_STREAM}
use Rattle.mobile_end.specs.declared.mobile_end.Place.{Place as MobilePlace}
use Rattle.mobile_end.specs.declared.mobile_end.Place.TheVariants as places
use Rattle.ruled_relay.specs.declared.item.What.TheVariants as whats
use Rattle.world_model.specs.Mobiles.{may_send, is_new, connected, with_message_made, frame_in, complete, failure}
use Rattle.world_model.specs.Reading.{IsReadItem, AreRead}
use Rattle.world_model.proofs.Honesty.{reached_up}
use Rattle.world_model.proofs.Lawful.{IsOnChannel, IsOnChannelIf, read_lawful}
use Rattle.world_model.proofs.Leads.{and_right}
use Rattle.world_model.proofs.Mobility.{back_all, behind_all, found_all}
use Rattle.world_model.proofs.Sizing.{lent_sized, queue_sized, frame_sized, acked_sized, arrival_sized, sendable_sized, initial_sized}
use Rattle.world_model.proofs.Soundness.{IsSound, SoundEnd, Ends, sound_read, sound_tell, sound_activated, sound_released, sound_behind, active_lawful, ends_set, sound_request, sound_detection, sound_establishment, sound_initial, sound_data, sound_report, sound_answer}
use Rattle.world_model.proofs.Footprints.{Becomes, Joins, Lends, Takes, Tells, event-keeps, hearing-end}
use Rattle.world_model.proofs.Footprints.Becomes.{arrives, hears, is_acked, leaves, lends, opens, queues, returns}
use Rattle.world_model.proofs.Footprints.Joins.{connects}
use Rattle.world_model.proofs.Footprints.Tells.{answers, brings, detects, establishes, links, opens_with, reports, requires}

abbrev pub HasSizedEnd : Mobile → Type 0
HasSizedEnd p = HasSized p.end

pub record Good (w : Actors) : Type 0 where
  pub ends : Ends w.stations
  pub mobiles : AllByRecursion HasSizedEnd w.mobiles

good_mobile : (p : Mobile) (u : Actors) → HasSizedEnd p → Good u → Good (with_mobile p u)
good_mobile p u sized good = record { ends = good.ends; mobiles = back_all HasSizedEnd p u.mobiles sized good.mobiles }

good_base : (station : ℕ) (base : BaseState) (u : Actors) → SoundEnd base → Good u → Good (with_base station base u)
good_base station base u sound good = record { ends = ends_set u.stations (station - 1) (record (station_of u station) { base = base }) sound good.ends; mobiles = good.mobiles }

pub end_of : (u : Actors) (station : ℕ) → Good u → SoundEnd (base_of u station)
unfolding Ends
end_of u station good = good.ends (station - 1)

good_spot : (at : Place) (spot : Spot) (u : Actors) → Good u → Good (with_spot at spot u)
good_spot at spot u good = record { ends = ends_set u.stations (at.station - 1) _ (end_of u at.station good) good.ends; mobiles = good.mobiles }

good_told : (station : ℕ) (message : Rsl) (u : Actors) → IsSound message → Good u → Good (with_message_made station message u)
good_told station message u sound good = good_base station (after_tell (base_of u station) message) u (sound_tell (base_of u station) message sound (end_of u station good)) good

pub sized_of : (w : Actors) (number : ℕ) (p : Mobile) → Good w → mobile_of w number ≡ Some p → HasSizedEnd p
sized_of w number p good found = found_all HasSizedEnd number w.mobiles p good.mobiles found

pub reached_lawful : (w : Actors) (tenure : Tenure) → Good w → is_reached w tenure ≡ true → is_channel tenure.at.number ≡ true
reached_lawful w tenure good reached = active_lawful (base_of w tenure.at.station).active tenure.at.number (end_of w tenure.at.station good).channels (reached_up w tenure reached).1

-- ---- a frame that is brought

frame_l3 : (p : MobileState) (sapi : Sapi) (frame : List ℕ) → HasSized p → frame_in (frame_answer p sapi) ≡ Some frame → IsL3 (Some frame)
frame_l3 p sapi frame sized is = by_state p.stage p.place (lent_message (link_of p sapi)) (lent_sized p sapi sized) is where
  by_state : (stage : Stage) (place : MobilePlace) (o : Option (List ℕ)) →
      IsL3 o →
      frame_in (frame_answer_at stage place o) ≡ Some frame →
      IsL3 (Some frame)
  by_state New place o l3 h = absurd cc
  by_state Connected places.Moving o l3 h = absurd cc
  by_state Connected places.OnChannel o l3 h = subst IsL3 h l3

pub lent_l3 : {w : Actors} {number : ℕ} {sapi : Sapi} {p : Mobile} {tenure : Tenure} {frame : List ℕ} →
    Good w →
    Lends w number sapi p tenure frame →
    IsL3 (Some frame)
lent_l3 {w} {number} {sapi} {p} {tenure} {frame} good lent = frame_l3 p.end sapi frame (sized_of w number p good lent.found) lent.lent

pub lent_lawful : {w : Actors} {number : ℕ} {sapi : Sapi} {p : Mobile} {tenure : Tenure} {frame : List ℕ} →
    Good w →
    Lends w number sapi p tenure frame →
    is_channel tenure.at.number ≡ true
lent_lawful {w} {tenure = tenure} good lent = reached_lawful w tenure good lent.reached

three_octets : 0 < 3
three_octets = omega arith

few_octets : 3 ≤ 251
few_octets = omega arith

complete_l3 : (change : Change) → IsL3 (Some (complete change))
complete_l3 Assignment = (three_octets, few_octets)
complete_l3 Handover = (three_octets, few_octets)

failure_l3 : (change : Change) → IsL3 (Some (failure change))
failure_l3 Assignment = (three_octets, few_octets)
failure_l3 Handover = (three_octets, few_octets)

-- ---- what a station takes

pub rsl_in_lawful : (frame : Frame) → IsOnChannelIf (rsl_in frame)
unfolding IsOnChannelIf
rsl_in_lawful frame = by_stream (frame.stream == RSL_STREAM) where
  by_stream : (b : Bool) → IsOnChannelIf (if b then result_ok (rsl_reading frame.body) else None)
  by_stream true = read_lawful frame.body
  by_stream false = tt

-- what a station takes names a channel
pub taken_lawful : {w : Actors} {event : Event} {station : ℕ} {message : Rsl} → Takes w event station message → IsOnChannel message
unfolding IsOnChannelIf
taken_lawful taken = subst IsOnChannelIf taken.is (rsl_in_lawful taken.first.out.frame)

-- ---- each event

becomes_sized : {w : Actors} {number : ℕ} {event : Event} {p q : Mobile} → HasSizedEnd p → Becomes w number event p q → HasSizedEnd q
becomes_sized sized (queues sapi message p may) = queue_sized p.end sapi message (sendable_sized p.end sapi message (and_right (may_send p.seat) (is_none (refusal_of_send p.end sapi message)) may)) sized
becomes_sized sized (opens p tenure frame lent) = frame_sized p.end Zero sized
becomes_sized sized (lends p tenure frame lent) = frame_sized p.end Three sized
becomes_sized sized (is_acked sapi p) = acked_sized p.end sapi sized
becomes_sized sized (hears p tenure command first others seat reached pending) = subst HasSized (sym (hearing-end p first)) sized
becomes_sized sized (leaves p tenure command seat reached) = record { zero = sized.zero; three = sized.three }
becomes_sized sized (arrives p from command seat reached) = arrival_sized p.end (complete command.change) (complete_l3 command.change) sized
becomes_sized sized (returns p from command seat reached) = arrival_sized p.end (failure command.change) (failure_l3 command.change) sized
becomes_sized sized _ = sized

joins_sized : {w : Actors} {event : Event} {number : ℕ} {initial : List ℕ} {accepting : Bool} →
    Joins w event number initial accepting →
    HasSizedEnd (connected w.modulus number initial accepting)
joins_sized {w} (connects number station initial accepting may) =
    let empty : HasSized (new_mobile w.modulus) = record { zero = record { waiting = tt; air = tt }; three = record { waiting = tt; air = tt } } in
    let begins = initial_sized initial (and_right (is_new w number && is_station_up w station) (is_none (refusal_of_connect (Some initial))) may) in
    let queued : HasSized (after_queue (new_mobile w.modulus) Zero initial) = queue_sized (new_mobile w.modulus) Zero initial begins empty in
    record { zero = queued.zero; three = queued.three }

tells_sound : {w : Actors} {event : Event} {n : ℕ} {message : Rsl} → Good w → Tells w event n message → IsSound message
unfolding IsOnChannel
tells_sound good (requires number station initial accepting) = sound_request number
tells_sound good (opens_with number p tenure frame lent) = sound_initial tenure.at.number frame (lent_lawful good lent) (lent_l3 good lent)
tells_sound good (brings number sapi p tenure frame lent) = sound_data tenure.at.number sapi frame (lent_lawful good lent) (lent_l3 good lent)
tells_sound good (links number p tenure frame lent) = sound_establishment tenure.at.number Three (lent_lawful good lent)
tells_sound {w} good (detects number tenure reached) = sound_detection tenure.at.number (reached_lawful w tenure good reached)
tells_sound {w} good (establishes tenure reached) = sound_establishment tenure.at.number Zero (reached_lawful w tenure good reached)
tells_sound good (answers station l answer taken) = sound_answer answer l.channel (taken_lawful taken)
tells_sound {w} good (reports number report tenure reached long) =
    sound_report tenure.at.number (spot_at w tenure.at).reports report (reached_lawful w tenure good reached) (eqb-true (length report) REPORT_LENGTH long)

pub good_step : (w : Actors) (event : Event) → Good w → Good (actors_after w event)
unfolding IsOnChannel
good_step w event good = event-keeps Good w event (record {
  puts = λ u number p q found _ how so. good_mobile q u (becomes_sized (sized_of w number p good found) how) so;
  joins = λ number initial accepting how so. record { ends = so.ends; mobiles = behind_all HasSizedEnd (connected w.modulus number initial accepting) w.mobiles (joins_sized how) so.mobiles };
  tells = λ u n message _ how so. good_told n message u (tells_sound good how) so;
  spots = λ u at spot _ _ so. good_spot at spot u so;
  pops = λ station others _ so. record { ends = so.ends; mobiles = so.mobiles };
  activates = λ u s a taken _ so.
      let sound = sound_activated (base_of u s) a.channel (taken_lawful taken) (end_of u s so) in
      good_spot (place_at s a.channel) _ (with_base s _ u) (good_base s _ u sound so);
  releases = λ u s channel taken so.
      let sound = sound_released (base_of u s) channel (taken_lawful taken) (end_of u s so) in
      good_spot (place_at s channel) _ (with_base s _ u) (good_base s _ u sound so);
}) (record {
  rest = λ u inbox controller switch made lines so. record { ends = so.ends; mobiles = so.mobiles };
  next = λ source message _ so.
      let before = end_of w source so in
      good_base source _ w (record { channels = before.channels; made = sound_behind (base_of w source).messages before.made }) so;
  down = λ source _ _ so. good_base source _ w (record { channels = (end_of w source so).channels; made = tt }) so;
}) good

-- ---- what is pushed

read_pushed : (w : Actors) (event : Event) → Good w → AllByRecursion IsReadItem (pushed w event)
read_pushed w (BasePush source) good = by_source (nat_eq source SWITCH_LINK) refl where
  of_switch : source ≡ SWITCH_LINK → (made : List Sccp) → AllByRecursion IsReadItem (map switch_item (first_of made))
  of_switch is [] = tt
  of_switch is (first ∷ others) = ((λ other. absurd (other refl)), tt)

  of_station : (messages : List Rsl) →
      AllByRecursion IsSound messages →
      AllByRecursion IsReadItem (map (station_item source) (option_to_list (first_of_messages messages)))
  of_station [] all = tt
  of_station (first ∷ others) all = ((λ other. (first, refl, sound_read first all.0)), tt)

  by_source : (b : Bool) →
      nat_eq source SWITCH_LINK ≡ b →
      AllByRecursion IsReadItem (if b then map switch_item (first_of w.switch_made) else map (station_item source) (option_to_list (first_message (base_of w source))))
  by_source true is = of_switch (eqb-true source SWITCH_LINK is) w.switch_made
  by_source false is = of_station (base_of w source).messages (end_of w source good).made
read_pushed w (BaseDown source) good = by_link (is_up w source) where
  by_link : (b : Bool) → AllByRecursion IsReadItem (if b then record { source = source; what = whats.Down } ∷ [] else [])
  by_link true = ((λ other. tt), tt)
  by_link false = tt
read_pushed w _ good = tt

read_all : (w : Actors) (events : List Event) → Good w → AllByRecursion IsReadItem (all_pushed w events)
read_all w [] good = tt
read_all w (event ∷ events) good =
    AllByRecursion-append IsReadItem (pushed w event) (all_pushed (actors_after w event) events) (read_pushed w event good) (read_all (actors_after w event) events (good_step w event good))

new_ends : (from k : ℕ) (cells : List CellParameters) → SoundEnd (get_or (stations_from from cells) k no_station).base
new_ends from k [] = record { channels = tt; made = tt }
new_ends from zero (cell ∷ cells) = record { channels = tt; made = tt }
new_ends from (suc k) (cell ∷ cells) = new_ends (from + 1) k cells

pub good_new : (settings : Parameters) → Good (new_actors settings)
unfolding Ends
good_new settings = record { ends = λ k. new_ends 1 k settings.cells; mobiles = tt }

pub good_all : (w : Actors) (events : List Event) → Good w → Good (actors_after_all w events)
good_all w [] good = good
good_all w (event ∷ events) good = good_all (actors_after w event) events (good_step w event good)

pub are_read_new : (settings : Parameters) (events : List Event) → AreRead settings events
are_read_new settings events = read_all (new_actors settings) events (good_new settings)
