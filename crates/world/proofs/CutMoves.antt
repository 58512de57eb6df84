-- SPDX-License-Identifier: MIT OR Apache-2.0
-- A mobile that connects, moves or reports, and the break of a link that isn't that of its
-- stations, in either order.
use Rattle.std.proofs.Common.{◌≡◌, ◌≢◌, ℕ, ◌+◌, ◌%◌, ◌==◌, ◌&&◌, not, Bool, true, false, List, [], ◌∷◌, ◌++◌, length, Some, None}
use Rattle.std.proofs.Common.{refl, ap, ◌∙◌, get_or}
use Rattle.std.specs.Option.{is_none}
use Rattle.std.specs.Prelude.{option_map}
use Rattle.conn_messages.specs.declared.channel.Place.{Place}
use Rattle.conn_messages.specs.declared.parameters.TheConstants.{SWITCH_LINK}
use Rattle.dtap_codec.specs.declared.report.TheConstants.{REPORT_LENGTH}
use Rattle.dtap_codec.specs.declared.sapi.Sapi.TheVariants.{Zero}
use Rattle.link_model.specs.Base.{after_establish}
use Rattle.mobile_end.specs.Mobile.{after_arrival, after_leave, refusal_of_connect}
use Rattle.world_model.specs.declared.seat.Seat.{Seat}
use Rattle.world_model.specs.declared.seat.Seat.TheVariants.{Moving, On}
use Rattle.world_model.specs.declared.seat.Tenure.{Tenure}
use Rattle.world_model.specs.Mobiles.{after_arriving, after_connecting, after_move, after_report, after_return, after_touch, arrived}
use Rattle.world_model.specs.Mobiles.{channel_required, complete, connected, failure, handover_detection, is_new, is_to_handover, left}
use Rattle.world_model.specs.Mobiles.{measurement_result, moved, reported, reported_at, returned, seated, touched, with_message_made}
use Rattle.world_model.specs.World.{Actors, Link, Mobile, Station, base_of, is_reached, is_station_up, is_up, mobile_of, new_spot, spot_at}
use Rattle.world_model.specs.World.{with_base, with_mobile, with_spot}
use Rattle.world_model.proofs.Leads.{and_left, and_right}
use Rattle.world.specs.Beside.{is_off, sits_off}
use Rattle.world.proofs.Cut.{cut, link_beside, made_beside, station_beside, with_base_beside, with_spot_beside}
use Rattle.world.proofs.CutMobiles.{apart, found_beside, only_beside, reached_beside, reached_station, seated_off, some_station}

pub connecting_beside : (source : ℕ) (w : Actors) (number n : ℕ) (initial : List ℕ) (accepts : Bool) → n ≢ source
    → after_connecting (cut source w) number n initial accepts ≡ option_map (cut source) (after_connecting w number n initial accepts)
connecting_beside source w number n initial accepts differs =
    only_beside source (is_new w number && is_station_up (cut source w) n && is_none (refusal_of_connect (Some initial))) (is_new w number && is_station_up w n && is_none (refusal_of_connect (Some initial))) _ _
    (ap (λ (l : Link). is_new w number && (not (n == SWITCH_LINK) && l.up) && is_none (refusal_of_connect (Some initial))) (link_beside source w n differs))
    (λ both. made_beside source (record w { mobiles = w.mobiles ++ connected w.modulus number initial accepts ∷ [] }) n (channel_required number) (some both) differs) where
      some : is_new w number && is_station_up w n && is_none (refusal_of_connect (Some initial)) ≡ true → n ≢ 0
      some both =
          some_station n
          (and_left (not (n == SWITCH_LINK)) (is_up w n)
          (and_right (is_new w number) (is_station_up w n)
          (and_left (is_new w number && is_station_up w n) (is_none (refusal_of_connect (Some initial))) both)))

moved_beside : (source : ℕ) (w : Actors) (p : Mobile) (seat : Seat) → is_off source (Some seat) ≡ true
    → moved (cut source w) p seat ≡ option_map (cut source) (moved w p seat)
moved_beside source w p (On tenure (Some command)) off =
    only_beside source (is_reached (cut source w) tenure) (is_reached w tenure) _ _ (reached_beside source w tenure (apart tenure.at.station source off))
    (λ reached. left_beside (reached_station w tenure reached) (apart tenure.at.station source off)) where
      left_beside : tenure.at.station ≢ 0 → tenure.at.station ≢ source
          → left (cut source w) p tenure command ≡ cut source (left w p tenure command)
      left_beside some differs =
          ap (λ (s : Station). with_mobile (record p { end = after_leave p.end; seat = Moving tenure command; opens = false }) (with_spot tenure.at (record (get_or s.spots tenure.at.number new_spot) { air = []; sapi_three_up = false }) (cut source w))) (station_beside source w tenure.at.station some differs)
          ∙ ap (with_mobile (record p { end = after_leave p.end; seat = Moving tenure command; opens = false })) (with_spot_beside source w tenure.at (record (spot_at w tenure.at) { air = []; sapi_three_up = false }) some differs)
moved_beside source w p _ off = refl

pub move_beside : (source : ℕ) (w : Actors) (number : ℕ) → sits_off source w number ≡ true
    → after_move (cut source w) number ≡ option_map (cut source) (after_move w number)
move_beside source w number off =
    found_beside source (mobile_of w number) (λ p. moved w p p.seat) (λ p. moved (cut source w) p p.seat)
    (λ p is. moved_beside source w p p.seat (seated_off source (mobile_of w number) p off is))

touched_beside : (source : ℕ) (w : Actors) (seat : Seat) → is_off source (Some seat) ≡ true
    → touched (cut source w) seat ≡ option_map (cut source) (touched w seat)
touched_beside source w (Moving from command) off =
    let differs : command.target.at.station ≢ source = apart command.target.at.station source (and_right (not (from.at.station == source)) (not (command.target.at.station == source)) off) in
    only_beside source (is_to_handover command.change && is_reached (cut source w) command.target) (is_to_handover command.change && is_reached w command.target) _ _
    (ap (λ (b : Bool). is_to_handover command.change && b) (reached_beside source w command.target differs))
    (λ both. made_beside source w command.target.at.station (handover_detection command.target.at.number) (reached_station w command.target (and_right (is_to_handover command.change) (is_reached w command.target) both)) differs)
touched_beside source w _ off = refl

pub touch_beside : (source : ℕ) (w : Actors) (number : ℕ) → sits_off source w number ≡ true
    → after_touch (cut source w) number ≡ option_map (cut source) (after_touch w number)
touch_beside source w number off =
    found_beside source (mobile_of w number) (λ p. touched w p.seat) (λ p. touched (cut source w) p.seat)
    (λ p is. touched_beside source w p.seat (seated_off source (mobile_of w number) p off is))

seated_beside : (source : ℕ) (w : Actors) (p : Mobile) (tenure : Tenure) (control : List ℕ) → tenure.at.station ≢ source
    → is_reached w tenure ≡ true → seated (cut source w) p tenure control ≡ cut source (seated w p tenure control)
seated_beside source w p tenure control differs reached =
    ap (λ (s : Station). with_mobile (record p { end = after_arrival p.end control; seat = On tenure None }) (with_base tenure.at.station (after_establish s.base tenure.at.number Zero None) (cut source w))) (station_beside source w tenure.at.station (reached_station w tenure reached) differs)
    ∙ ap (with_mobile (record p { end = after_arrival p.end control; seat = On tenure None })) (with_base_beside source w tenure.at.station (after_establish (base_of w tenure.at.station) tenure.at.number Zero None) (reached_station w tenure reached) differs)

arrived_beside : (source : ℕ) (w : Actors) (p : Mobile) (seat : Seat) → is_off source (Some seat) ≡ true
    → arrived (cut source w) p seat ≡ option_map (cut source) (arrived w p seat)
arrived_beside source w p (Moving from command) off =
    let differs : command.target.at.station ≢ source = apart command.target.at.station source (and_right (not (from.at.station == source)) (not (command.target.at.station == source)) off) in
    only_beside source (is_reached (cut source w) command.target) (is_reached w command.target) _ _ (reached_beside source w command.target differs) (seated_beside source w p command.target (complete command.change) differs)
arrived_beside source w p _ off = refl

pub arriving_beside : (source : ℕ) (w : Actors) (number : ℕ) → sits_off source w number ≡ true
    → after_arriving (cut source w) number ≡ option_map (cut source) (after_arriving w number)
arriving_beside source w number off =
    found_beside source (mobile_of w number) (λ p. arrived w p p.seat) (λ p. arrived (cut source w) p p.seat)
    (λ p is. arrived_beside source w p p.seat (seated_off source (mobile_of w number) p off is))

returned_beside : (source : ℕ) (w : Actors) (p : Mobile) (seat : Seat) → is_off source (Some seat) ≡ true
    → returned (cut source w) p seat ≡ option_map (cut source) (returned w p seat)
returned_beside source w p (Moving from command) off =
    let differs : from.at.station ≢ source = apart from.at.station source (and_left (not (from.at.station == source)) (not (command.target.at.station == source)) off) in
    only_beside source (is_reached (cut source w) from) (is_reached w from) _ _ (reached_beside source w from differs) (seated_beside source w p from (failure command.change) differs)
returned_beside source w p _ off = refl

pub return_beside : (source : ℕ) (w : Actors) (number : ℕ) → sits_off source w number ≡ true
    → after_return (cut source w) number ≡ option_map (cut source) (after_return w number)
return_beside source w number off =
    found_beside source (mobile_of w number) (λ p. returned w p p.seat) (λ p. returned (cut source w) p p.seat)
    (λ p is. returned_beside source w p p.seat (seated_off source (mobile_of w number) p off is))

reported_at_beside : (source : ℕ) (w : Actors) (at : Place) (report : List ℕ) → at.station ≢ 0 → at.station ≢ source
    → reported_at (cut source w) at report ≡ cut source (reported_at w at report)
reported_at_beside source w at report some differs =
    ap (λ (s : Station). with_message_made at.station (measurement_result at.number (get_or s.spots at.number new_spot).reports report) (with_spot at (record (get_or s.spots at.number new_spot) { reports = ((get_or s.spots at.number new_spot).reports + 1) % 256 }) (cut source w))) (station_beside source w at.station some differs)
    ∙ ap (with_message_made at.station (measurement_result at.number (spot_at w at).reports report)) (with_spot_beside source w at (record (spot_at w at) { reports = ((spot_at w at).reports + 1) % 256 }) some differs)
    ∙ made_beside source (with_spot at (record (spot_at w at) { reports = ((spot_at w at).reports + 1) % 256 }) w) at.station (measurement_result at.number (spot_at w at).reports report) some differs

reported_beside : (source : ℕ) (w : Actors) (report : List ℕ) (seat : Seat) → is_off source (Some seat) ≡ true
    → reported (cut source w) report seat ≡ option_map (cut source) (reported w report seat)
reported_beside source w report (On tenure command) off =
    only_beside source (is_reached (cut source w) tenure && (length report == REPORT_LENGTH)) (is_reached w tenure && (length report == REPORT_LENGTH)) _ _
    (ap (λ (b : Bool). b && (length report == REPORT_LENGTH)) (reached_beside source w tenure (apart tenure.at.station source off)))
    (λ both. reported_at_beside source w tenure.at report (reached_station w tenure (and_left (is_reached w tenure) (length report == REPORT_LENGTH) both)) (apart tenure.at.station source off))
reported_beside source w report _ off = refl

pub report_beside : (source : ℕ) (w : Actors) (number : ℕ) (report : List ℕ) → sits_off source w number ≡ true
    → after_report (cut source w) number report ≡ option_map (cut source) (after_report w number report)
report_beside source w number report off =
    found_beside source (mobile_of w number) (λ p. reported w report p.seat) (λ p. reported (cut source w) report p.seat)
    (λ p is. reported_beside source w report p.seat (seated_off source (mobile_of w number) p off is))
