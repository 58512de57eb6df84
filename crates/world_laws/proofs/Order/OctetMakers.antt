-- SPDX-License-Identifier: MIT OR Apache-2.0
-- What mobiles have and stations make is octets, whatever events of octets happened.
use Rattle.world_laws.proofs.Prelude.{◌≡◌, ℕ, zero, suc, ◌+◌, ◌-◌, ◌%◌, ◌<◌, ◌≤◌, nat_eq, Bool, true, false, if◌then◌else◌, List, [], ◌∷◌}
use Rattle.world_laws.proofs.Prelude.{◌++◌, length, get_or, replicate, set, map, option_to_list, Option, Some, None, inl, inr, refl, sym}
use Rattle.world_laws.proofs.Prelude.{subst, arith, AllByRecursion, cases_Bool, eqb-false, eqb-true, Change, Assignment, Handover, Place}
use Rattle.world_laws.proofs.Prelude.{SWITCH_LINK, AllByRecursion-append, place_at, Sapi, Zero, Three, CHANNEL_NUMBERS, BaseState}
use Rattle.world_laws.proofs.Prelude.{after_tell, first_message, first_of_messages, messages_behind_first, activation_ack, MobilePlace}
use Rattle.world_laws.proofs.Prelude.{Stage, New, Connected, lent_message, after_queue, frame_answer, new_mobile, MobileState, Rsl}
use Rattle.world_laws.proofs.Prelude.{RfChannelReleaseAck, CellParameters, Parameters, Event, BasePush, BaseDown, Tenure, actors_after}
use Rattle.world_laws.proofs.Prelude.{complete, connected, failure, frame_in, station_item, switch_item, accepts, Actors}
use Rattle.world_laws.proofs.Prelude.{Mobile, Spot, base_of, is_up, mobile_of, new_actors, new_spot, no_station, spot_at, station_of}
use Rattle.world_laws.proofs.Prelude.{stations_from, with_base, with_mobile, with_spot, Good, good_new, good_step, found_all, Sccp}
use Rattle.world_laws.proofs.Prelude.{all_pushed, first_of, pushed, Becomes, Joins, Lends, Respots, Tells, event-keeps, hearing-end, Four}
use Rattle.world_laws.proofs.Prelude.{Two, count_of, frame_answer_at, set-elsewhere, set-or-not, back_all, behind_all, AreOctetEvents}
use Rattle.world_laws.proofs.Prelude.{IsOctetEvent, IsOctetItem, StationsGiveOctets, acked_holds, arrival_holds, frame_holds, lent_holds}
use Rattle.world_laws.proofs.Prelude.{link_holds, connects, airs, asks_up, counts, down_by_break, is_left, short_up}
use Rattle.dtap_codec.specs.declared.report.TheConstants.{REPORT_LENGTH}
use Rattle.mobile_end.specs.declared.mobile_end.Place.TheVariants as places
use Rattle.mobile_end.specs.Mobile.{link_of}
use Rattle.world_model.specs.Mobiles.{with_message_made}
use Rattle.world_model.specs.World.{Station}
use Rattle.world_model.proofs.Lawful.{IsOnChannel}
use Rattle.ruled_relay.specs.declared.item.What.TheVariants as whats
use Rattle.world_laws.proofs.Order.Modulus.{all_set}
use Rattle.world_laws.proofs.Order.OctetLinks.{HasOctets, IsFew, queue_octets}
use Rattle.world_laws.proofs.Order.OctetTexts.{IsOctetRsl, Octets, OctetsIf, octet_ack, octet_answer, octet_data, octet_detection}
use Rattle.world_laws.proofs.Order.OctetTexts.{octet_establishment, octet_release, octet_report, octet_request, octets_cons, octets_nil}
use Rattle.world_model.proofs.Footprints.Becomes.{arrives, hears, is_acked, leaves, lends, opens, queues, returns}
use Rattle.world_model.proofs.Footprints.Tells.{answers, brings, detects, establishes, links, opens_with, reports, requires}
use Rattle.world_model.proofs.Heard.{lent_l3, lent_lawful, reached_lawful, taken_lawful}

abbrev IsOctetStation : Station → Type 0
IsOctetStation s = AllByRecursion IsOctetRsl s.base.messages × AllByRecursion (λ (spot : Spot). spot.reports < 256) s.spots

abbrev HasOctetEnd : Mobile → Type 0
HasOctetEnd p = HasOctets p.end

pub record Makers (w : Actors) : Type 0 where
  pub stations : (k : ℕ) → IsOctetStation (get_or w.stations k no_station)
  pub mobiles : AllByRecursion HasOctetEnd w.mobiles
  pub counted : (1 ≤ w.modulus) × (w.modulus ≤ 4)

-- ---- lists

all_or : {X : Type 0} (P : X → Type 0) (xs : List X) (i : ℕ) (d : X) → AllByRecursion P xs → P d → P (get_or xs i d)
all_or P [] i d all is = is
all_or P (x ∷ xs) zero d all is = all.0
all_or P (x ∷ xs) (suc i) d all is = all_or P xs i d all.1 is

stations_set : (stations : List Station) (k : ℕ) (station : Station) →
    IsOctetStation station →
    ((j : ℕ) → IsOctetStation (get_or stations j no_station)) →
    (j : ℕ) →
    IsOctetStation (get_or (set stations k station) j no_station)
stations_set stations k station is all j =
    elim (cases_Bool (nat_eq j k)) [
      | inl same ↦ subst (λ (i : ℕ). IsOctetStation (get_or (set stations k station) i no_station)) (sym (eqb-true j k same)) own
      | inr other ↦ subst IsOctetStation (sym (set-elsewhere stations k j station (eqb-false j k other))) (all j)
    ] where
      own : IsOctetStation (get_or (set stations k station) k no_station)
      own = elim (set-or-not stations k station) [
        | inl there ↦ subst IsOctetStation (sym there) is
        | inr nowhere ↦ subst IsOctetStation (sym nowhere.0) (tt, tt)
      ]

-- ---- changes of the world

made_mobile : (p : Mobile) (u : Actors) → HasOctetEnd p → Makers u → Makers (with_mobile p u)
made_mobile p u is of = record { stations = of.stations; mobiles = back_all HasOctetEnd p u.mobiles is of.mobiles; counted = of.counted }

made_base : (station : ℕ) (base : BaseState) (u : Actors) →
    AllByRecursion IsOctetRsl base.messages →
    Makers u →
    Makers (with_base station base u)
made_base station base u all of = record {
  stations = stations_set u.stations (station - 1) (record (station_of u station) { base = base }) (all, (of.stations (station - 1)).1) of.stations;
  mobiles = of.mobiles;
  counted = of.counted;
}

made_spot : (at : Place) (spot : Spot) (u : Actors) → spot.reports < 256 → Makers u → Makers (with_spot at spot u)
made_spot at spot u small of = record {
  stations = stations_set u.stations (at.station - 1) (record (station_of u at.station) { spots = set (station_of u at.station).spots at.number spot })
      ((of.stations (at.station - 1)).0, all_set (λ (spot : Spot). spot.reports < 256) (station_of u at.station).spots at.number spot (of.stations (at.station - 1)).1 small) of.stations;
  mobiles = of.mobiles;
  counted = of.counted;
}

reports_small : (u : Actors) (at : Place) → Makers u → (spot_at u at).reports < 256
reports_small u at of = all_or (λ (spot : Spot). spot.reports < 256) (station_of u at.station).spots at.number new_spot (of.stations (at.station - 1)).1 (omega arith)

made_told : (station : ℕ) (message : Rsl) (u : Actors) → IsOctetRsl message → Makers u → Makers (with_message_made station message u)
made_told station message u is of = made_base station (after_tell (base_of u station) message) u (AllByRecursion-append IsOctetRsl (base_of u station).messages (message ∷ []) (of.stations (station - 1)).0 (is, tt)) of

of_mobile : (w : Actors) (number : ℕ) (p : Mobile) → Makers w → mobile_of w number ≡ Some p → HasOctetEnd p
of_mobile w number p of found = found_all HasOctetEnd number w.mobiles p of.mobiles found

-- ---- a frame that is brought

frame_of : (P : Option (List ℕ) → Type 0) (p : MobileState) (sapi : Sapi) (frame : List ℕ) →
    P (lent_message (link_of p sapi)) →
    frame_in (frame_answer p sapi) ≡ Some frame →
    P (Some frame)
frame_of P p sapi frame all is = by_state p.stage p.place (lent_message (link_of p sapi)) all is where
  by_state : (stage : Stage) (place : MobilePlace) (o : Option (List ℕ)) →
      P o →
      frame_in (frame_answer_at stage place o) ≡ Some frame →
      P (Some frame)
  by_state New place o all h = absurd cc
  by_state Connected places.Moving o all h = absurd cc
  by_state Connected places.OnChannel o all h = subst P h all

behind : (base : BaseState) (message : Rsl) →
    IsOctetRsl message →
    AllByRecursion IsOctetRsl base.messages →
    AllByRecursion IsOctetRsl (base.messages ++ message ∷ [])
behind base message is all = AllByRecursion-append IsOctetRsl base.messages (message ∷ []) all (is, tt)

three_octets : {a b c : ℕ} → a < 256 → b < 256 → c < 256 → Octets (a ∷ b ∷ c ∷ [])
three_octets one two three = octets_cons one (octets_cons two (octets_cons three octets_nil))

complete_octets : (change : Change) → Octets (complete change)
complete_octets Assignment = three_octets (omega arith) (omega arith) (omega arith)
complete_octets Handover = three_octets (omega arith) (omega arith) (omega arith)

failure_octets : (change : Change) → Octets (failure change)
failure_octets Assignment = three_octets (omega arith) (omega arith) (omega arith)
failure_octets Handover = three_octets (omega arith) (omega arith) (omega arith)

-- ---- each event

-- the same mobiles and stations
same : {w u : Actors} → u.stations ≡ w.stations → u.mobiles ≡ w.mobiles → u.modulus ≡ w.modulus → Makers w → Makers u
same {w} {u} stations mobiles modulus of = record {
  stations = λ k. subst (λ (xs : List Station). IsOctetStation (get_or xs k no_station)) (sym stations) (of.stations k);
  mobiles = subst (AllByRecursion HasOctetEnd) (sym mobiles) of.mobiles;
  counted = subst (λ (m : ℕ). (1 ≤ m) × (m ≤ 4)) (sym modulus) of.counted;
}

becomes_octets : {w : Actors} {number : ℕ} {event : Event} {p q : Mobile} →
    IsOctetEvent event →
    HasOctetEnd p →
    Becomes w number event p q →
    HasOctetEnd q
becomes_octets octets own (queues sapi message p may) = queue_octets p.end sapi message (record { are = octets }) own
becomes_octets octets own (opens p tenure frame lent) = frame_holds OctetsIf IsFew tt p.end Zero own
becomes_octets octets own (lends p tenure frame lent) = frame_holds OctetsIf IsFew tt p.end Three own
becomes_octets octets own (is_acked sapi p) = acked_holds OctetsIf IsFew tt p.end sapi own
becomes_octets octets own (hears p tenure command first others seat reached pending) = subst HasOctets (sym (hearing-end p first)) own
becomes_octets octets own (leaves p tenure command seat reached) = record { zero = own.zero; three = own.three; counted = own.counted }
becomes_octets octets own (arrives p from command seat reached) = arrival_holds OctetsIf IsFew tt p.end (complete command.change) (complete_octets command.change) own
becomes_octets octets own (returns p from command seat reached) = arrival_holds OctetsIf IsFew tt p.end (failure command.change) (failure_octets command.change) own
becomes_octets octets own _ = own

joins_octets : {w : Actors} {event : Event} {number : ℕ} {initial : List ℕ} {accepts : Bool} →
    IsOctetEvent event →
    Makers w →
    Joins w event number initial accepts →
    HasOctetEnd (connected w.modulus number initial accepts)
joins_octets {w} octets of (connects number station initial accepts may) =
    let empty : HasOctets (new_mobile w.modulus) = record { zero = record { waiting = tt; air = tt }; three = record { waiting = tt; air = tt }; counted = of.counted } in
    let queued : HasOctets (after_queue (new_mobile w.modulus) Zero initial) = queue_octets (new_mobile w.modulus) Zero initial (record { are = octets.1 }) empty in
    record { zero = queued.zero; three = queued.three; counted = queued.counted }

lent_all : {w : Actors} {number : ℕ} {sapi : Sapi} {p : Mobile} {tenure : Tenure} {frame : List ℕ} →
    Makers w →
    Lends w number sapi p tenure frame →
    Octets frame
lent_all {w} {number} {sapi} {p} {tenure} {frame} of lent =
    frame_of OctetsIf p.end sapi frame (lent_holds OctetsIf IsFew tt (link_of p.end sapi) (link_holds OctetsIf IsFew tt p.end sapi (of_mobile w number p of lent.found))) lent.lent

tells_octets : {w : Actors} {event : Event} {n : ℕ} {message : Rsl} →
    IsOctetEvent event →
    Good w →
    Makers w →
    Tells w event n message →
    IsOctetRsl message
unfolding IsOnChannel
tells_octets octets good of (requires number station initial accepts) = octet_request number octets.0
tells_octets octets good of (opens_with number p tenure frame lent) = octet_establishment tenure.at.number Zero (Some frame) (lent_lawful good lent) (lent_l3 good lent) (lent_all of lent)
tells_octets octets good of (brings number sapi p tenure frame lent) = octet_data tenure.at.number sapi frame (lent_lawful good lent) (lent_l3 good lent) (lent_all of lent)
tells_octets octets good of (links number p tenure frame lent) = octet_establishment tenure.at.number Three None (lent_lawful good lent) tt tt
tells_octets {w} octets good of (detects number tenure reached) = octet_detection tenure.at.number (reached_lawful w tenure good reached)
tells_octets {w} octets good of (establishes tenure reached) = octet_establishment tenure.at.number Zero None (reached_lawful w tenure good reached) tt tt
tells_octets octets good of (answers station l answer taken) = octet_answer answer l.channel (taken_lawful taken)
tells_octets {w} octets good of (reports number report tenure reached long) =
    octet_report tenure.at.number (spot_at w tenure.at).reports report (reached_lawful w tenure good reached) (reports_small w tenure.at of) (eqb-true (length report) REPORT_LENGTH long) (record { are = octets })

respot_small : {w u : Actors} {event : Event} {at : Place} {spot : Spot} → Makers u → Respots w u event at spot → spot.reports < 256
respot_small {u = u} of (short_up number tenure reached) = reports_small u tenure.at of
respot_small {u = u} of (down_by_break tenure first others reached pending) = reports_small u tenure.at of
respot_small {u = u} of (is_left number tenure reached) = reports_small u tenure.at of
respot_small {u = u} of (counts number report tenure reached) = below (spot_at u tenure.at).reports where
  below : (n : ℕ) → (n + 1) % 256 < 256
  below n = omega arith
respot_small {u = u} of (airs station d taken active) = reports_small u (place_at station d.channel) of
respot_small {u = u} of (asks_up station l answer taken) = reports_small u (place_at station l.channel) of

behind_first : (messages : List Rsl) → AllByRecursion IsOctetRsl messages → AllByRecursion IsOctetRsl (messages_behind_first messages)
behind_first [] all = tt
behind_first (first ∷ others) all = all.1

pub made_step : (w : Actors) (event : Event) → IsOctetEvent event → Good w → Makers w → Makers (actors_after w event)
unfolding IsOnChannel
made_step w event octets good of = event-keeps Makers w event (record {
  puts = λ u number p q found _ how so. made_mobile q u (becomes_octets octets (of_mobile w number p of found) how) so;
  joins = λ number initial accepts how so.
      let all = behind_all HasOctetEnd (connected w.modulus number initial accepts) w.mobiles (joins_octets octets of how) so.mobiles in
      record { stations = so.stations; mobiles = all; counted = so.counted };
  tells = λ u n message _ how so. made_told n message u (tells_octets octets good of how) so;
  spots = λ u at spot _ how so. made_spot at spot u (respot_small so how) so;
  pops = λ station others _ so. same refl refl refl so;
  activates = λ u s a taken _ so.
      let all = behind (base_of u s) (activation_ack a.channel) (octet_ack a.channel (taken_lawful taken)) (so.stations (s - 1)).0 in
      made_spot (place_at s a.channel) _ (with_base s _ u) (omega arith) (made_base s _ u all so);
  releases = λ u s channel taken so.
      let all = behind (base_of u s) (RfChannelReleaseAck channel) (octet_release channel (taken_lawful taken)) (so.stations (s - 1)).0 in
      made_spot (place_at s channel) _ (with_base s _ u) (reports_small u (place_at s channel) so) (made_base s _ u all so);
}) (record {
  rest = λ u inbox controller switch made lines so. same refl refl refl so;
  next = λ source message _ so. made_base source _ w (behind_first (base_of w source).messages (so.stations (source - 1)).0) so;
  down = λ source _ _ so. made_base source _ w tt so;
}) of

-- ---- at the beginning

new_spots : (count : ℕ) → AllByRecursion (λ (spot : Spot). spot.reports < 256) (replicate count new_spot)
new_spots zero = tt
new_spots (suc count) = (omega arith, new_spots count)

new_stations : (from k : ℕ) (cells : List CellParameters) → IsOctetStation (get_or (stations_from from cells) k no_station)
new_stations from k [] = (tt, tt)
new_stations from zero (cell ∷ cells) = (tt, new_spots CHANNEL_NUMBERS)
new_stations from (suc k) (cell ∷ cells) = new_stations (from + 1) k cells

pub made_new : (settings : Parameters) → Makers (new_actors settings)
made_new settings = record { stations = λ k. new_stations 1 k settings.cells; mobiles = tt; counted = by settings.network.release98 } where
  by : (b : Bool) → (1 ≤ count_of (if b then Two else Four)) × (count_of (if b then Two else Four) ≤ 4)
  by true = (omega arith, omega arith)
  by false = (omega arith, omega arith)

-- ---- what they give to the inbox

-- the first message that a station made
first_made : (source : ℕ) (messages : List Rsl) →
    AllByRecursion IsOctetRsl messages →
    AllByRecursion IsOctetItem (map (station_item source) (option_to_list (first_of_messages messages)))
first_made source [] all = tt
first_made source (first ∷ others) all = ((λ station. all.0.are), tt)

given_octets : (w : Actors) (event : Event) → Makers w → AllByRecursion IsOctetItem (pushed w event)
given_octets w (BasePush source) of = by_source (nat_eq source SWITCH_LINK) refl where
  of_switch : source ≡ SWITCH_LINK → (made : List Sccp) → AllByRecursion IsOctetItem (map switch_item (first_of made))
  of_switch is [] = tt
  of_switch is (first ∷ others) = ((λ station. absurd (station refl)), tt)

  by_source : (b : Bool) →
      nat_eq source SWITCH_LINK ≡ b →
      AllByRecursion IsOctetItem (if b then map switch_item (first_of w.switch_made) else map (station_item source) (option_to_list (first_message (base_of w source))))
  by_source true is = of_switch (eqb-true source SWITCH_LINK is) w.switch_made
  by_source false is = first_made source (base_of w source).messages (of.stations (source - 1)).0
given_octets w (BaseDown source) of = by_link (is_up w source) where
  by_link : (b : Bool) → AllByRecursion IsOctetItem (if b then record { source = source; what = whats.Down } ∷ [] else [])
  by_link true = ((λ station. tt), tt)
  by_link false = tt
given_octets w _ of = tt

all_given : (w : Actors) (events : List Event) →
    AreOctetEvents events →
    Good w →
    Makers w →
    AllByRecursion IsOctetItem (all_pushed w events)
all_given w [] octets good of = tt
all_given w (event ∷ events) octets good of =
    AllByRecursion-append IsOctetItem (pushed w event) (all_pushed (actors_after w event) events) (given_octets w event of) (all_given (actors_after w event) events octets.1 (good_step w event good) (made_step w event octets.0 good of))

pub stations_give_octets_new : (settings : Parameters) (events : List Event) → StationsGiveOctets settings events
stations_give_octets_new settings events octets = all_given (new_actors settings) events octets (good_new settings) (made_new settings)
