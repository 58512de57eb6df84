-- SPDX-License-Identifier: MIT OR Apache-2.0
-- Frames between a mobile and the station of its channel.
use Rattle.world_actors.proofs.Prelude.{◌≡◌, ℕ, ◌-◌, ◌&&◌, Bool, true, false, if◌then◌else◌, List, [], ◌∷◌, ◌++◌, set, Option, Some, None}
use Rattle.world_actors.proofs.Prelude.{Result, Ok, Err, OnErr, IsSome, refl, sym, ap, ◌∙◌, subst, option_and_then, option_map, set-get_or}
use Rattle.world_actors.proofs.Prelude.{Place, Sapi, Memory, at_mobile, by_mobile_in, MobilesState, at_station, station_after_message, with_spot_of, Seat}
use Rattle.world_actors.proofs.Prelude.{Asking, On, Moving, Gone, Tenure, by_mobile, only_if, Takes, Actors, Mobile, Station, is_reached}
use Rattle.world_actors.proofs.Prelude.{no_station, spot_at, station_of, behind_first, first_in}
use Rattle.std.proofs.Common.{◌+◌, ◌%◌, ◌==◌, length}
use Rattle.std.specs.Option.{is_some}
use Rattle.std.proofs.lemmas.Bool.{eq-eqb}
use Rattle.world_model.specs.Streams.{is_dtap}
use Rattle.dtap_codec.specs.declared.report.TheConstants.{REPORT_LENGTH}
use Rattle.dtap_codec.specs.RrReading.{rr_reading}
use Rattle.mobile_end.specs.Mobile.{after_acked, is_acknowledged}
use Rattle.world_ends.specs.Mobiles.{acknowledging}
use Rattle.world_ends.specs.Stations.{reported_on, taken_on}
use Rattle.world_model.specs.declared.line.AirMessage.{AirMessage}
use Rattle.world_model.specs.Mobiles.{acknowledged, after_air_ack, after_air_down, after_air_down_lost, after_report, brought_down, controlled, hearing, measurement_result, reported, reported_at, taken_from_air, ignored}
use Rattle.world_model.specs.World.{Spot, new_spot, with_mobile, with_spot}
use Rattle.world_model.proofs.Ticketing.{same_number}
use Rattle.world_actors.specs.Seats.{reached_by}
use Rattle.world_actors.proofs.Sitting.{Reached, at_mobile_is, at_reached, put_back_same, same_acts, twice, when_not_reached, when_reached}
use Rattle.world_actors.proofs.Upper.{by_itself, found_number, mobiles_of, takes_for, with_mobiles}

-- an event that isn't taken
pub idle : (w : Actors) (o : Option Actors) → o ≡ None → Takes w o false w
idle w o none = subst (λ (x : Option Actors). Takes w x false w) (sym none) (refl, refl)

pub done : (w new : Actors) (o : Option Actors) (next : Actors) → o ≡ Some next → new ≡ next → Takes w o true new
done w new o next is same = subst (λ (x : Option Actors). Takes w x true new) (sym is) (refl, same)

pub wants : {X : Type 0} (r : Result X Memory) (o : Option Actors) (next : Actors) → o ≡ Some next → OnErr r (IsSome o)
wants (Ok x) o next is = tt
wants (Err memory) o next is = subst (λ (x : Option Actors). IsSome x) (sym is) refl

-- ---- an acknowledgement

abbrev acknowledges : Actors → Sapi → Mobile → Tenure → Option Actors
acknowledges w sapi p tenure = option_map (λ q. with_mobile q w) (acknowledging sapi p)

ack_is : (w : Actors) (number : ℕ) (sapi : Sapi) →
    after_air_ack w number sapi ≡ by_mobile w number (λ p. at_reached w (acknowledges w sapi) p p.seat)
ack_is w number sapi = same_acts w number (acknowledged w sapi) (at_reached w (acknowledges w sapi)) by_seat where
  by_both : (a b : Bool) (q : Mobile) →
      only_if (a && b) (with_mobile q w) ≡ (if a then option_map (λ (x : Mobile). with_mobile x w) (if b then Some q else None) else None)
  by_both true true q = refl
  by_both true false q = refl
  by_both false b q = refl

  by_seat : (p : Mobile) (s : Seat) → acknowledged w sapi p s ≡ at_reached w (acknowledges w sapi) p s
  by_seat p (On t c) = by_both (is_reached w t) (is_acknowledged p.end sapi) (record p { end = after_acked p.end sapi })
  by_seat p Asking = refl
  by_seat p (Moving from command) = refl
  by_seat p Gone = refl

ack_keeps : (sapi : Sapi) (p q : Mobile) → acknowledging sapi p ≡ Some q → q.number ≡ p.number
ack_keeps sapi p q is = by_ack (is_acknowledged p.end sapi) is where
  same : {x : Mobile} → Some x ≡ Some q → x.number ≡ q.number
  same e = cc

  by_ack : (b : Bool) → (if b then Some (record p { end = after_acked p.end sapi }) else None) ≡ Some q → q.number ≡ p.number
  by_ack true h = sym (same h)
  by_ack false h = absurd cc

pub ack_takes : (w : Actors) (number : ℕ) (sapi : Sapi) (taken : Bool) (new : MobilesState) → (tenure : Tenure) × Reached w number tenure
    → Takes (mobiles_of w) (by_mobile_in number (acknowledging sapi) (mobiles_of w)) taken new → Takes w (after_air_ack w number sapi) taken (with_mobiles w new)
ack_takes w number sapi taken new (tenure, r) takes =
    let found : by_mobile w number (λ p. option_map (λ q. with_mobile q w) (acknowledging sapi p)) ≡ option_map (λ q. with_mobile q w) (acknowledging sapi r.on.mobile)
    = ap (λ (o : Option Mobile). option_and_then (λ p. option_map (λ q. with_mobile q w) (acknowledging sapi p)) o) r.on.found in
    subst (λ (o : Option Actors). Takes w o taken (with_mobiles w new))
    (sym (ack_is w number sapi ∙ when_reached w number tenure (acknowledges w sapi) r ∙ sym found ∙ by_itself w number (acknowledging sapi) (ack_keeps sapi)))
    (takes_for w _ taken new takes)

pub ack_idle : (w : Actors) (number : ℕ) (sapi : Sapi) → reached_by w number ≡ None → Takes w (after_air_ack w number sapi) false w
ack_idle w number sapi none = idle w _ (ack_is w number sapi ∙ when_not_reached w number (acknowledges w sapi) none)

-- ---- a message from the air

abbrev brings : Actors → (Mobile → AirMessage → Mobile) → Mobile → Tenure → Option Actors
brings w hears p tenure = taken_from_air w hears p tenure.at (spot_at w tenure.at).air

brought_is : (w : Actors) (number : ℕ) (hears : Mobile → AirMessage → Mobile) →
    by_mobile w number (λ p. brought_down w hears p p.seat) ≡ by_mobile w number (λ p. at_reached w (brings w hears) p p.seat)
brought_is w number hears = same_acts w number (brought_down w hears) (at_reached w (brings w hears)) by_seat where
  by_seat : (p : Mobile) (s : Seat) → brought_down w hears p s ≡ at_reached w (brings w hears) p s
  by_seat p (On t c) = refl
  by_seat p Asking = refl
  by_seat p (Moving from command) = refl
  by_seat p Gone = refl

pub down_unreached : (w : Actors) (number : ℕ) (hears : Mobile → AirMessage → Mobile) →
    reached_by w number ≡ None →
    Takes w (by_mobile w number (λ p. brought_down w hears p p.seat)) false w
down_unreached w number hears none = idle w _ (brought_is w number hears ∙ when_not_reached w number (brings w hears) none)

-- nothing is in the air
pub take_none : (w : Actors) (at : Place) →
    first_in (spot_at w at).air ≡ None →
    at_station at.station (taken_on at.number) w.stations ≡ w.stations
take_none w at none =
    ap (set w.stations (at.station - 1)) (ap (λ (spots : List Spot). record (station_of w at.station) { spots = spots })
    (ap (set (station_of w at.station).spots at.number) (by_air (spot_at w at) none) ∙ set-get_or (station_of w at.station).spots at.number new_spot))
    ∙ set-get_or w.stations (at.station - 1) no_station where
      by_air : (s : Spot) → first_in s.air ≡ None → record s { air = behind_first s.air } ≡ s
      by_air s none = by_messages s.air refl none where
        by_messages : (air : List AirMessage) → s.air ≡ air → first_in air ≡ None → record s { air = behind_first s.air } ≡ s
        by_messages [] are h = ap (λ (all : List AirMessage). record s { air = behind_first all }) are ∙ ap (λ (all : List AirMessage). record s { air = all }) (sym are)
        by_messages (m ∷ others) are h = absurd cc

pub down_idle : (w : Actors) (number : ℕ) (hears : Mobile → AirMessage → Mobile) (tenure : Tenure) (stations : List Station) → Reached w number tenure → first_in (spot_at w tenure.at).air ≡ None
    → stations ≡ at_station tenure.at.station (taken_on tenure.at.number) w.stations → Takes w (by_mobile w number (λ p. brought_down w hears p p.seat)) false (record w { stations = stations })
down_idle w number hears tenure stations r none is =
    subst (λ (all : List Station). Takes w (by_mobile w number (λ p. brought_down w hears p p.seat)) false (record w { stations = all })) (sym (is ∙ take_none w tenure.at none))
    (idle w _ (brought_is w number hears ∙ when_reached w number tenure (brings w hears) r ∙ by_air (spot_at w tenure.at).air none)) where
      by_air : (air : List AirMessage) → first_in air ≡ None → taken_from_air w hears r.on.mobile tenure.at air ≡ None
      by_air [] h = refl
      by_air (m ∷ others) h = absurd cc

-- the first of the air is taken
down_is : (w : Actors) (number : ℕ) (hears : Mobile → AirMessage → Mobile) (tenure : Tenure) (heard : AirMessage) (r : Reached w number tenure) → first_in (spot_at w tenure.at).air ≡ Some heard
    → by_mobile w number (λ p. brought_down w hears p p.seat) ≡ Some (with_mobile (hears r.on.mobile heard) (record w { stations = at_station tenure.at.station (taken_on tenure.at.number) w.stations }))
down_is w number hears tenure heard r first =
    brought_is w number hears ∙ when_reached w number tenure (brings w hears) r ∙ by_air (spot_at w tenure.at).air refl first where
      same : {x y : AirMessage} → Some x ≡ Some y → x ≡ y
      same e = cc

      by_air : (air : List AirMessage) → (spot_at w tenure.at).air ≡ air → first_in air ≡ Some heard
          → taken_from_air w hears r.on.mobile tenure.at air ≡ Some (with_mobile (hears r.on.mobile heard) (record w { stations = at_station tenure.at.station (taken_on tenure.at.number) w.stations }))
      by_air [] are h = absurd cc
      by_air (m ∷ others) are h =
          ap (λ (x : AirMessage). Some (with_mobile (hears r.on.mobile x) (with_spot tenure.at (record (spot_at w tenure.at) { air = others }) w))) (same h)
          ∙ ap (λ (all : List AirMessage). Some (with_mobile (hears r.on.mobile heard) (with_spot tenure.at (record (spot_at w tenure.at) { air = behind_first all }) w))) (sym are)

hear_keeps : (p : Mobile) (heard : AirMessage) → (hearing p heard).number ≡ p.number
hear_keeps p heard = by_dtap (is_dtap heard.message) where
  by_dtap : (b : Bool) →
      (if b then record p { received = p.received ++ heard.message ∷ [] } else controlled p heard.target (rr_reading heard.message)).number ≡ p.number
  by_dtap true = refl
  by_dtap false = same_number p heard.target (rr_reading heard.message)

pub down_done : (w : Actors) (number : ℕ) (tenure : Tenure) (heard : AirMessage) (stations : List Station) (mobiles : MobilesState) → Reached w number tenure → first_in (spot_at w tenure.at).air ≡ Some heard
    → stations ≡ at_station tenure.at.station (taken_on tenure.at.number) w.stations → mobiles ≡ at_mobile number (λ p. hearing p heard) (mobiles_of w)
    → Takes w (after_air_down w number) true (record (with_mobiles w mobiles) { stations = stations })
down_done w number tenure heard stations mobiles r first is hears =
    done w _ _ _ (down_is w number hearing tenure heard r first)
    (ap (λ (all : List Station). record (with_mobiles w mobiles) { stations = all }) is
    ∙ ap (λ (s : MobilesState). record (with_mobiles w s) { stations = at_station tenure.at.station (taken_on tenure.at.number) w.stations })
    (hears ∙ at_mobile_is w number r.on.mobile (λ p. hearing p heard) r.on.found (hear_keeps r.on.mobile heard)))

pub lost_takes : (w : Actors) (number : ℕ) (tenure : Tenure) (heard : Option AirMessage) (taken : Bool) (stations : List Station) → Reached w number tenure → heard ≡ first_in (spot_at w tenure.at).air
    → taken ≡ is_some heard → stations ≡ at_station tenure.at.station (taken_on tenure.at.number) w.stations → Takes w (after_air_down_lost w number) taken (record w { stations = stations })
lost_takes w number tenure None taken stations r first is after =
    subst (λ (b : Bool). Takes w (after_air_down_lost w number) b (record w { stations = stations })) (sym is) (down_idle w number ignored tenure stations r (sym first) after)
lost_takes w number tenure (Some heard) taken stations r first is after =
    subst (λ (b : Bool). Takes w (after_air_down_lost w number) b (record w { stations = stations })) (sym is)
    (done w _ _ _ (down_is w number ignored tenure heard r (sym first))
    (ap (λ (all : List Station). record w { stations = all }) after
    ∙ ap (λ (all : List Mobile). record w { mobiles = all; stations = at_station tenure.at.station (taken_on tenure.at.number) w.stations })
    (sym (put_back_same number w.mobiles r.on.mobile (found_number number w.mobiles r.on.mobile r.on.found) r.on.found))))

pub down_wants : {X : Type 0} (result : Result X Memory) (w : Actors) (number : ℕ) (tenure : Tenure) (heard : AirMessage) → Reached w number tenure → first_in (spot_at w tenure.at).air ≡ Some heard
    → OnErr result (IsSome (after_air_down w number))
down_wants result w number tenure heard r first = wants result _ _ (down_is w number hearing tenure heard r first)

-- ---- a report

abbrev reports : Actors → List ℕ → Mobile → Tenure → Option Actors
reports w report p tenure = only_if (length report == REPORT_LENGTH) (reported_at w tenure.at report)

report_is : (w : Actors) (number : ℕ) (report : List ℕ) →
    after_report w number report ≡ by_mobile w number (λ p. at_reached w (reports w report) p p.seat)
report_is w number report = same_acts w number (λ p. reported w report) (at_reached w (reports w report)) by_seat where
  by_both : (a b : Bool) (next : Actors) → only_if (a && b) next ≡ (if a then only_if b next else None)
  by_both true b next = refl
  by_both false b next = refl

  by_seat : (p : Mobile) (s : Seat) → reported w report s ≡ at_reached w (reports w report) p s
  by_seat p (On t c) = by_both (is_reached w t) (length report == REPORT_LENGTH) (reported_at w t.at report)
  by_seat p Asking = refl
  by_seat p (Moving from command) = refl
  by_seat p Gone = refl

pub report_unreached : (w : Actors) (number : ℕ) (report : List ℕ) →
    reached_by w number ≡ None →
    Takes w (after_report w number report) false w
report_unreached w number report none = idle w _ (report_is w number report ∙ when_not_reached w number (reports w report) none)

reported_is : (w : Actors) (number : ℕ) (report : List ℕ) (tenure : Tenure) → Reached w number tenure → length report ≡ REPORT_LENGTH
    → after_report w number report ≡ Some (record w { stations = at_station tenure.at.station (reported_on tenure.at.number report) w.stations })
reported_is w number report tenure r whole =
    report_is w number report ∙ when_reached w number tenure (reports w report) r ∙ ap (λ (b : Bool). only_if b (reported_at w tenure.at report)) (eq-eqb (length report) REPORT_LENGTH whole)
    ∙ ap (λ (all : List Station). Some (record w { stations = all }))
    (twice w.stations (tenure.at.station - 1) (with_spot_of tenure.at.number (record (spot_at w tenure.at) { reports = ((spot_at w tenure.at).reports + 1) % 256 }) (station_of w tenure.at.station))
    (station_after_message (measurement_result tenure.at.number (spot_at w tenure.at).reports report)))

pub report_done : (w : Actors) (number : ℕ) (report : List ℕ) (tenure : Tenure) (stations : List Station) → Reached w number tenure → length report ≡ REPORT_LENGTH
    → stations ≡ at_station tenure.at.station (reported_on tenure.at.number report) w.stations → Takes w (after_report w number report) true (record w { stations = stations })
report_done w number report tenure stations r whole is =
    done w _ _ _ (reported_is w number report tenure r whole) (ap (λ (all : List Station). record w { stations = all }) is)

pub report_wants : {X : Type 0} (result : Result X Memory) (w : Actors) (number : ℕ) (report : List ℕ) (tenure : Tenure) → Reached w number tenure → length report ≡ REPORT_LENGTH
    → OnErr result (IsSome (after_report w number report))
report_wants result w number report tenure r whole = wants result _ _ (reported_is w number report tenure r whole)
