-- SPDX-License-Identifier: MIT OR Apache-2.0
-- Mobiles change their channels.
use Rattle.world_actors.proofs.Prelude.{◌≡◌, ℕ, ◌&&◌, Bool, true, false, if◌then◌else◌, List, Option, Some, None, Result, OnErr, IsSome}
use Rattle.world_actors.proofs.Prelude.{refl, sym, ap, ◌∙◌, subst, option_and_then, find_at, Memory, at_mobile, mobile_in, MobilesState}
use Rattle.world_actors.proofs.Prelude.{at_station, station_after_message, Seat, Asking, On, Moving, Gone, Tenure, by_mobile, only_if, with_message_made, Takes}
use Rattle.world_actors.proofs.Prelude.{Actors, Mobile, Station, has_number, is_reached, mobile_of}
use Rattle.std.proofs.Common.{IfSome}
use Rattle.conn_messages.specs.declared.channel.Change.{Change}
use Rattle.world_ends.specs.Mobiles.{arriving, is_moving, leaving}
use Rattle.world_ends.specs.Stations.{established_on, left_on}
use Rattle.world_model.specs.Mobiles.{after_arriving, after_move, after_return, after_touch, arrived, complete, failure, handover_detection, is_to_handover, left, moved, returned, seated, touched}
use Rattle.world_actors.specs.declared.departure.Departure.{Departure}
use Rattle.world_actors.specs.Seats.{moving_from, of_seat, commanded_from}
use Rattle.world_actors.proofs.Airing.{done, idle, wants}
use Rattle.world_actors.proofs.Sitting.{at_mobile_is, same_acts}
use Rattle.world_actors.proofs.Upper.{mobiles_of, with_mobiles}

pub record Reads (reads : Seat → Option Departure) (w : Actors) (number : ℕ) (d : Departure) : Type 0 where
  pub mobile : Mobile
  pub found : mobile_of w number ≡ Some mobile
  pub read : reads mobile.seat ≡ Some d

pub read_found : (reads : Seat → Option Departure) (w : Actors) (number : ℕ) (d : Departure) →
    of_seat reads w number ≡ Some d →
    Reads reads w number d
read_found reads w number d is = by_found (mobile_in number w.mobiles) (find_at (has_number number) w.mobiles) is where
  by_found : (o : Option Mobile) →
      mobile_of w number ≡ o →
      option_and_then (λ (p : Mobile). reads p.seat) o ≡ Some d →
      Reads reads w number d
  by_found None are h = absurd cc
  by_found (Some p) are h = record { mobile = p; found = are; read = h }

-- what a mobile does by it
when_read : (reads : Seat → Option Departure) (w : Actors) (number : ℕ) (d : Departure) (act : Mobile → Departure → Option Actors) (r : Reads reads w number d)
    → by_mobile w number (λ p. option_and_then (act p) (reads p.seat)) ≡ act r.mobile d
when_read reads w number d act r = ap (λ (o : Option Mobile). option_and_then (λ p. option_and_then (act p) (reads p.seat)) o) r.found ∙ ap (λ (o : Option Departure). option_and_then (act r.mobile) o) r.read

when_not_read : (reads : Seat → Option Departure) (w : Actors) (number : ℕ) (act : Mobile → Departure → Option Actors) → of_seat reads w number ≡ None
    → by_mobile w number (λ p. option_and_then (act p) (reads p.seat)) ≡ None
when_not_read reads w number act none = by_found (mobile_in number w.mobiles) (find_at (has_number number) w.mobiles) none where
  by_found : (o : Option Mobile) →
      mobile_of w number ≡ o →
      option_and_then (λ (p : Mobile). reads p.seat) o ≡ None →
      by_mobile w number (λ p. option_and_then (act p) (reads p.seat)) ≡ None
  by_found None are h = ap (λ (o : Option Mobile). option_and_then (λ p. option_and_then (act p) (reads p.seat)) o) are
  by_found (Some p) are h = ap (λ (o : Option Mobile). option_and_then (λ p. option_and_then (act p) (reads p.seat)) o) are ∙ ap (λ (o : Option Departure). option_and_then (act p) o) h

-- ---- it leaves

abbrev leaves : Actors → Mobile → Departure → Option Actors
leaves w p d = Some (left w p d.from d.command)

move_is : (w : Actors) (number : ℕ) → after_move w number ≡ by_mobile w number (λ p. option_and_then (leaves w p) (commanded_from w p.seat))
move_is w number = same_acts w number (moved w) (λ p s. option_and_then (leaves w p) (commanded_from w s)) by_seat where
  by_reach : (p : Mobile) (b : Bool) (d : Departure) →
      only_if b (left w p d.from d.command) ≡ option_and_then (leaves w p) (if b then Some d else None)
  by_reach p true d = refl
  by_reach p false d = refl

  by_seat : (p : Mobile) (s : Seat) → moved w p s ≡ option_and_then (leaves w p) (commanded_from w s)
  by_seat p (On t (Some c)) = by_reach p (is_reached w t) (record { from = t; command = c })
  by_seat p (On t None) = refl
  by_seat p Asking = refl
  by_seat p (Moving from command) = refl
  by_seat p Gone = refl

pub leave_idle : (w : Actors) (number : ℕ) → of_seat (commanded_from w) w number ≡ None → Takes w (after_move w number) false w
leave_idle w number none = idle w _ (move_is w number ∙ when_not_read (commanded_from w) w number (leaves w) none)

pub leave_done : (w : Actors) (number : ℕ) (d : Departure) (stations : List Station) (mobiles : MobilesState) → of_seat (commanded_from w) w number ≡ Some d
    → stations ≡ at_station d.from.at.station (left_on d.from.at.number) w.stations → mobiles ≡ at_mobile number (leaving d.from d.command) (mobiles_of w)
    → Takes w (after_move w number) true (record (with_mobiles w mobiles) { stations = stations })
leave_done w number d stations mobiles with_message_made is leaves_so =
    let r : Reads (commanded_from w) w number d = read_found (commanded_from w) w number d with_message_made in
    done w _ _ _ (move_is w number ∙ when_read (commanded_from w) w number d (leaves w) r)
    (ap (λ (all : List Station). record (with_mobiles w mobiles) { stations = all }) is
    ∙ ap (λ (s : MobilesState). record (with_mobiles w s) { stations = at_station d.from.at.station (left_on d.from.at.number) w.stations })
    (leaves_so ∙ at_mobile_is w number r.mobile (leaving d.from d.command) r.found refl))

-- ---- what a mobile between two channels does

abbrev by_departure : (Mobile → Departure → Option Actors) → Mobile → Seat → Option Actors
by_departure act p s = option_and_then (act p) (moving_from s)

moving_idle : (w : Actors) (number : ℕ) (act : Mobile → Departure → Option Actors) (o : Option Actors) →
    o ≡ by_mobile w number (λ p. by_departure act p p.seat) →
    of_seat moving_from w number ≡ None →
    Takes w o false w
moving_idle w number act o is none = idle w o (is ∙ when_not_read moving_from w number act none)

pub is_between : (w : Actors) (number : ℕ) (d : Departure) →
    of_seat moving_from w number ≡ Some d →
    IfSome (mobile_in number w.mobiles) (λ p. is_moving p.seat ≡ true)
is_between w number d is =
    let r : Reads moving_from w number d = read_found moving_from w number d is in
    subst (λ (o : Option Mobile). IfSome o (λ p. is_moving p.seat ≡ true)) (sym r.found ∙ find_at (has_number number) w.mobiles) (by_seat r.mobile.seat r.read) where
      by_seat : (s : Seat) → moving_from s ≡ Some d → is_moving s ≡ true
      by_seat (Moving from command) h = refl
      by_seat (On t c) h = absurd cc
      by_seat Asking h = absurd cc
      by_seat Gone h = absurd cc

-- ---- it is heard

abbrev touches : Actors → Mobile → Departure → Option Actors
touches w p d = only_if (is_to_handover d.command.change && is_reached w d.command.target) (with_message_made d.command.target.at.station (handover_detection d.command.target.at.number) w)

touch_is : (w : Actors) (number : ℕ) → after_touch w number ≡ by_mobile w number (λ p. by_departure (touches w) p p.seat)
touch_is w number = same_acts w number (λ p. touched w) (by_departure (touches w)) by_seat where
  by_seat : (p : Mobile) (s : Seat) → touched w s ≡ by_departure (touches w) p s
  by_seat p (Moving from command) = refl
  by_seat p (On t c) = refl
  by_seat p Asking = refl
  by_seat p Gone = refl

pub touch_unmoved : (w : Actors) (number : ℕ) → of_seat moving_from w number ≡ None → Takes w (after_touch w number) false w
touch_unmoved w number none = moving_idle w number (touches w) _ (touch_is w number) none

touch_by : (w : Actors) (number : ℕ) (d : Departure) (a b : Bool) → of_seat moving_from w number ≡ Some d → is_to_handover d.command.change ≡ a → is_reached w d.command.target ≡ b
    → after_touch w number ≡ only_if (a && b) (with_message_made d.command.target.at.station (handover_detection d.command.target.at.number) w)
touch_by w number d a b is handover reached =
    let next : Actors = with_message_made d.command.target.at.station (handover_detection d.command.target.at.number) w in
    touch_is w number ∙ when_read moving_from w number d (touches w) (read_found moving_from w number d is)
    ∙ ap (λ (x : Bool). only_if (x && is_reached w d.command.target) next) handover ∙ ap (λ (x : Bool). only_if (a && x) next) reached

pub touch_other : (w : Actors) (number : ℕ) (d : Departure) →
    of_seat moving_from w number ≡ Some d →
    is_to_handover d.command.change ≡ false →
    Takes w (after_touch w number) false w
touch_other w number d is handover = idle w _ (touch_by w number d false (is_reached w d.command.target) is handover refl)

pub touch_unreached : (w : Actors) (number : ℕ) (d : Departure) →
    of_seat moving_from w number ≡ Some d →
    is_to_handover d.command.change ≡ true →
    is_reached w d.command.target ≡ false →
    Takes w (after_touch w number) false w
touch_unreached w number d is handover reached = idle w _ (touch_by w number d true false is handover reached)

pub touch_done : (w : Actors) (number : ℕ) (d : Departure) (stations : List Station) → of_seat moving_from w number ≡ Some d → is_to_handover d.command.change ≡ true → is_reached w d.command.target ≡ true
    → stations ≡ at_station d.command.target.at.station (station_after_message (handover_detection d.command.target.at.number)) w.stations → Takes w (after_touch w number) true (record w { stations = stations })
touch_done w number d stations is handover reached after = done w _ _ _ (touch_by w number d true true is handover reached) (ap (λ (all : List Station). record w { stations = all }) after)

pub touch_wants : {X : Type 0} (result : Result X Memory) (w : Actors) (number : ℕ) (d : Departure) → of_seat moving_from w number ≡ Some d → is_to_handover d.command.change ≡ true → is_reached w d.command.target ≡ true
    → OnErr result (IsSome (after_touch w number))
touch_wants result w number d is handover reached = wants result _ _ (touch_by w number d true true is handover reached)

-- ---- it is seated on a channel

seated_is : (w : Actors) (number : ℕ) (p : Mobile) (tenure : Tenure) (control : List ℕ) (stations : List Station) (mobiles : MobilesState) → mobile_of w number ≡ Some p
    → stations ≡ at_station tenure.at.station (established_on tenure.at.number) w.stations → mobiles ≡ at_mobile number (arriving tenure control) (mobiles_of w)
    → record (with_mobiles w mobiles) { stations = stations } ≡ seated w p tenure control
seated_is w number p tenure control stations mobiles found is arrives =
    ap (λ (all : List Station). record (with_mobiles w mobiles) { stations = all }) is
    ∙ ap (λ (s : MobilesState). record (with_mobiles w s) { stations = at_station tenure.at.station (established_on tenure.at.number) w.stations })
    (arrives ∙ at_mobile_is w number p (arriving tenure control) found refl)

-- ---- on a channel of its departure, where it is reached, with the message sent first there

abbrev seats_on : (Departure → Tenure) → (Change → List ℕ) → Actors → Mobile → Departure → Option Actors
seats_on on control w p d = only_if (is_reached w (on d)) (seated w p (on d) (control d.command.change))

pub record Seating : Type 0 where
  pub on : Departure → Tenure
  pub control : Change → List ℕ
  pub after : Actors → ℕ → Option Actors
  pub is : (w : Actors) (number : ℕ) → after w number ≡ by_mobile w number (λ p. by_departure (seats_on on control w) p p.seat)

abbrev target_of : Departure → Tenure
target_of d = d.command.target

abbrev origin_of : Departure → Tenure
origin_of d = d.from

pub arrive_is : (w : Actors) (number : ℕ) →
    after_arriving w number ≡ by_mobile w number (λ p. by_departure (seats_on target_of complete w) p p.seat)
arrive_is w number = same_acts w number (arrived w) (by_departure (seats_on target_of complete w)) by_seat where
  by_seat : (p : Mobile) (s : Seat) → arrived w p s ≡ by_departure (seats_on target_of complete w) p s
  by_seat p (Moving from command) = refl
  by_seat p (On t c) = refl
  by_seat p Asking = refl
  by_seat p Gone = refl

pub return_is : (w : Actors) (number : ℕ) →
    after_return w number ≡ by_mobile w number (λ p. by_departure (seats_on origin_of failure w) p p.seat)
return_is w number = same_acts w number (returned w) (by_departure (seats_on origin_of failure w)) by_seat where
  by_seat : (p : Mobile) (s : Seat) → returned w p s ≡ by_departure (seats_on origin_of failure w) p s
  by_seat p (Moving from command) = refl
  by_seat p (On t c) = refl
  by_seat p Asking = refl
  by_seat p Gone = refl

-- it arrives
abbrev pub arrival : Seating
arrival = record { on = target_of; control = complete; after = after_arriving; is = arrive_is }

-- it returns
abbrev pub going_back : Seating
going_back = record { on = origin_of; control = failure; after = after_return; is = return_is }

pub seat_unmoved : (s : Seating) (w : Actors) (number : ℕ) → of_seat moving_from w number ≡ None → Takes w (s.after w number) false w
seat_unmoved s w number none = moving_idle w number (seats_on s.on s.control w) _ (s.is w number) none

seat_at : (s : Seating) (w : Actors) (number : ℕ) (d : Departure) (b : Bool) (r : Reads moving_from w number d) → is_reached w (s.on d) ≡ b
    → s.after w number ≡ only_if b (seated w r.mobile (s.on d) (s.control d.command.change))
seat_at s w number d b r reached =
    s.is w number ∙ when_read moving_from w number d (seats_on s.on s.control w) r ∙ ap (λ (x : Bool). only_if x (seated w r.mobile (s.on d) (s.control d.command.change))) reached

pub seat_unreached : (s : Seating) (w : Actors) (number : ℕ) (d : Departure) →
    of_seat moving_from w number ≡ Some d →
    is_reached w (s.on d) ≡ false →
    Takes w (s.after w number) false w
seat_unreached s w number d is reached = idle w _ (seat_at s w number d false (read_found moving_from w number d is) reached)

pub seat_done : (s : Seating) (w : Actors) (number : ℕ) (d : Departure) (stations : List Station) (mobiles : MobilesState) → of_seat moving_from w number ≡ Some d → is_reached w (s.on d) ≡ true
    → stations ≡ at_station (s.on d).at.station (established_on (s.on d).at.number) w.stations → mobiles ≡ at_mobile number (arriving (s.on d) (s.control d.command.change)) (mobiles_of w)
    → Takes w (s.after w number) true (record (with_mobiles w mobiles) { stations = stations })
seat_done s w number d stations mobiles is reached after arrives =
    let r : Reads moving_from w number d = read_found moving_from w number d is in
    done w _ _ _ (seat_at s w number d true r reached) (seated_is w number r.mobile (s.on d) (s.control d.command.change) stations mobiles r.found after arrives)

pub seat_wants : {X : Type 0} (result : Result X Memory) (s : Seating) (w : Actors) (number : ℕ) (d : Departure) → of_seat moving_from w number ≡ Some d → is_reached w (s.on d) ≡ true
    → OnErr result (IsSome (s.after w number))
seat_wants result s w number d is reached = wants result _ _ (seat_at s w number d true (read_found moving_from w number d is) reached)
