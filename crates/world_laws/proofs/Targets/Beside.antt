-- SPDX-License-Identifier: MIT OR Apache-2.0
-- The target remains fresh at each event in which the controller does nothing.
use Rattle.world_laws.proofs.Prelude.{◌≡◌, ◌≢◌, ℕ, ◌==◌, ◌&&◌, nat_eq, Bool, true, false, if◌then◌else◌, unwrap_or, find, List, [], ◌∷◌}
use Rattle.world_laws.proofs.Prelude.{◌++◌, Option, Some, None, refl, sym, ap, ◌∙◌, subst, inl, inr, cases_Bool, eqb-false, eqb-true}
use Rattle.world_laws.proofs.Prelude.{eq-eqb, AllByRecursion, Channel, Place, SWITCH_LINK, Preparing, Changing, State}
use Rattle.world_laws.proofs.Prelude.{Live, Target, Connection, is_at, IsApart, undone, place_of, Sapi, Zero, Three, BaseState}
use Rattle.world_laws.proofs.Prelude.{after_tell, data_indication, establish_indication, MobilePlace, Stage, New, Connected, to_be_taken}
use Rattle.world_laws.proofs.Prelude.{after_frame, after_frame_at, frame_answer, MobileState, Rsl, Event, AirUp, Command, Seat, On}
use Rattle.world_laws.proofs.Prelude.{Moving, Tenure, actors_after, first_in, after_air_up, brought, complete, frame_in, framed}
use Rattle.world_laws.proofs.Prelude.{signalling_brought, Actors, Mobile, base_of, has_number, is_active_at, is_reached, is_station_up}
use Rattle.world_laws.proofs.Prelude.{is_up, mobile_of, put_back, tenure_at, with_base, Good, reached_up, up_right, air_up_leads}
use Rattle.world_laws.proofs.Prelude.{after_taken, both_empty, down_after, reached_station, false≢true, same_Some, apart_behind}
use Rattle.world_laws.proofs.Prelude.{messages_in, brings_up, coming_up, made_of, commanded_target, IsAlone, IsElsewhere, LinedUp, Sits}
use Rattle.world_laws.proofs.Prelude.{at_its_target, BeginWith, IsAwaited, IsFreshIn, IsLedBy, IsOnPlace}
use Rattle.conn_rules.specs.Streams.{target_in}
use Rattle.world_laws.specs.LineUp.Places.{Item as Brought}
use Rattle.world_laws.proofs.LineUp.Lines.{messages_in-append}
use Rattle.mobile_end.specs.declared.mobile_end.Place.TheVariants as places
use Rattle.world_model.specs.Life.{event_after}
use Rattle.world_laws.specs.Seated.Sits.{unchanged}
use Rattle.world_laws.proofs.AirUp.{frame_lent}
use Rattle.world_laws.proofs.Framing.{all_right}
use Rattle.world_laws.proofs.Projecting.{active_there, coming_told}
use Rattle.world_laws.proofs.Targets.Comings.{Comes, arriving, comes_step, elsewhere_coming, is_frame, is_relays, short_coming}
use Rattle.world_laws.proofs.Targets.Comings.Comes.{begun, same}
use Rattle.world_laws.proofs.Targets.Downs.{none_down}
use Rattle.world_laws.proofs.Targets.Givers.{Gives, gives_step, lent_first, still_put}
use Rattle.world_laws.proofs.Targets.Places.{is_place}

-- ---- a frame that the station takes on the channel

there_coming : (w : Actors) (p : Mobile) (at : Place) (frame : List ℕ) →
    at.station ≢ 0 →
    is_station_up w at.station ≡ true →
    is_active_at w at ≡ true →
    arriving at (brought w p at Zero frame) ≡ arriving at w ++ frame ∷ []
there_coming w p at frame at_is up active = by p.opens where
  base : BaseState
  base = base_of w at.station

  telling : (message : Rsl) →
      (if at.station == at.station then made_of at.number (message ∷ []) else []) ≡ brings_up frame ∷ [] →
      arriving at (with_base at.station (after_tell base message) w) ≡ arriving at w ++ frame ∷ []
  telling message is =
      ap messages_in (coming_told w w at.station at (after_tell base message) (message ∷ []) at_is up (λ k. refl) refl refl (inl (active_there w at active)) ∙ ap (λ (xs : List Brought). coming_up w at ++ xs) is)
      ∙ messages_in-append (coming_up w at) (brings_up frame ∷ [])

  two : (a b : Bool) → a ≡ true → b ≡ true → (if a then (if b then brings_up frame ∷ [] else []) ++ [] else []) ≡ brings_up frame ∷ []
  two true true x y = refl
  two true false x y = absurd cc
  two false b x y = absurd cc

  by : (b : Bool) → arriving at (with_base at.station (signalling_brought base at.number b frame) w) ≡ arriving at w ++ frame ∷ []
  by true = telling (establish_indication at.number Zero (Some frame)) (two (at.station == at.station) (at.number == at.number) (eq-eqb at.station at.station refl) (eq-eqb at.number at.number refl))
  by false = telling (data_indication at.number Zero frame) (two (at.station == at.station) (at.number == at.number) (eq-eqb at.station at.station refl) (eq-eqb at.number at.number refl))

three_zero : (e : MobileState) → (after_frame e Three).zero ≡ e.zero
three_zero e = by e.stage e.place where
  by : (stage : Stage) (place : MobilePlace) → (after_frame_at stage place e Three).zero ≡ e.zero
  by New places.OnChannel = refl
  by New places.Moving = refl
  by Connected places.OnChannel = refl
  by Connected places.Moving = refl

-- ---- lists

begin_front : (text : List ℕ) (xs ys : List (List ℕ)) → BeginWith text (xs ++ ys) → BeginWith text xs
begin_front text [] ys first = tt
begin_front text (x ∷ xs) ys first = first

begin_last : (text frame : List ℕ) (xs : List (List ℕ)) → (xs ≡ [] → frame ≡ text) → BeginWith text xs → BeginWith text (xs ++ frame ∷ [])
begin_last text frame [] is first = is refl
begin_last text frame (x ∷ xs) is first = first

none_last : {X : Type 0} (xs : List X) (x : X) → xs ++ x ∷ [] ≡ [] → ⊥
none_last [] x is = absurd cc
none_last (y ∷ xs) x is = absurd cc

-- ---- of one connection

module _ {m : ℕ} (w : Actors) (event : Event) (mobile : ℕ) (p : Mobile) (s : Connection) (found : mobile_of w mobile ≡ Some p) (lined : LinedUp m w p s) (alone : IsAlone w mobile s) (good : Good w) (beside : is_relays event ≡ false) (q : Mobile) (found_then : mobile_of (actors_after w event) mobile ≡ Some q) where
  abbrev v : Actors
  v = actors_after w event

  -- ---- the target, and where mobiles are

  rest_placed : AllByRecursion (λ c. c.station ≢ SWITCH_LINK) (s.serving ∷ target_in s.state)
  rest_placed = all_right (λ c. c.station ≢ SWITCH_LINK) (undone s.draining) (s.serving ∷ target_in s.state) lined.placed

  rest_apart : AllByRecursion (IsApart s.serving) (target_in s.state)
  rest_apart = (apart_behind (undone s.draining) (s.serving ∷ target_in s.state) lined.apart).0

  -- another mobile is elsewhere
  other_elsewhere : (c : Channel) →
      target_in s.state ≡ c ∷ [] →
      (number : ℕ) (x : Mobile) (tenure : Tenure) (command : Option Command) →
      number ≢ mobile →
      mobile_of w number ≡ Some x →
      x.seat ≡ On tenure command →
      is_reached w tenure ≡ true →
      is_place tenure.at (place_of c) ≡ false
  other_elsewhere c is number x tenure command differs acts seat reached =
      let all : IsElsewhere (s.serving ∷ target_in s.state) tenure.at = all_right (λ d. is_at tenure.at d ≡ false) (undone s.draining) (s.serving ∷ target_in s.state) (alone number x tenure command differs acts seat reached) in
      (subst (λ (cs : List Channel). IsElsewhere cs tenure.at) is all.1).0

  -- the own one: it sits on the serving channel, or arrived
  serving_elsewhere : (c : Channel) →
      target_in s.state ≡ c ∷ [] →
      (tenure : Tenure) →
      tenure ≡ tenure_at w (place_of s.serving) →
      is_place tenure.at (place_of c) ≡ false
  serving_elsewhere c is tenure there = ap (λ (t : Tenure). is_place t.at (place_of c)) there ∙ (subst (AllByRecursion (IsApart s.serving)) is rest_apart).0

  own_of : (number : ℕ) (x : Mobile) → number ≡ mobile → mobile_of w number ≡ Some x → x ≡ p
  own_of number x is acts = same_Some _ _ (sym acts ∙ ap (mobile_of w) is ∙ found)

  -- ---- a target that is prepared

  seat_prepared : (seat : Seat) (tenure : Tenure) (command : Option Command) →
      seat ≡ On tenure command →
      Sits w s.serving None seat →
      tenure ≡ tenure_at w (place_of s.serving)
  seat_prepared (On here other) tenure command is (unchanged there remembers) = ap (λ (x : Seat). tenure_in x tenure) (sym is) ∙ there where
    tenure_in : Seat → Tenure → Tenure
    tenure_in (On t c) d = t
    tenure_in x d = d
  seat_prepared _ tenure command is sits = absurd cc

  frame_prepared : (c : Channel) →
      target_in s.state ≡ c ∷ [] →
      commanded_target s.state ≡ None →
      (number : ℕ) (sapi : Sapi) →
      arriving (place_of c) w ≡ [] →
      arriving (place_of c) (unwrap_or (after_air_up w number sapi) w) ≡ []
  frame_prepared c is idle number sapi none = after_taken (λ u. arriving (place_of c) u ≡ []) (after_air_up w number sapi) w
      (air_up_leads (λ u. arriving (place_of c) u ≡ []) w number sapi (λ x tenure command frame acts seat lent reached. by sapi x tenure command frame acts seat reached ∙ none)) none where
        at_is : c.station ≢ SWITCH_LINK
        at_is = (subst (AllByRecursion (λ d. d.station ≢ SWITCH_LINK)) is rest_placed.1).0

        away : (x : Mobile) (tenure : Tenure) (command : Option Command) →
            mobile_of w number ≡ Some x →
            x.seat ≡ On tenure command →
            is_reached w tenure ≡ true →
            is_place tenure.at (place_of c) ≡ false
        away x tenure command acts seat reached = elim (cases_Bool (nat_eq number mobile)) [
          | inr miss ↦ other_elsewhere c is number x tenure command (eqb-false number mobile miss) acts seat reached
          | inl hit ↦ serving_elsewhere c is tenure (seat_prepared p.seat tenure command (ap (λ (y : Mobile). y.seat) (sym (own_of number x (eqb-true number mobile hit) acts)) ∙ seat) (subst (λ (o : Option Target). Sits w s.serving o p.seat) idle lined.sits))
        ]

        by : (sapi : Sapi) (x : Mobile) (tenure : Tenure) (command : Option Command) (frame : List ℕ) →
            mobile_of w number ≡ Some x →
            x.seat ≡ On tenure command →
            is_reached w tenure ≡ true →
            arriving (place_of c) (brought w x tenure.at sapi frame) ≡ arriving (place_of c) w
        by Three x tenure command frame acts seat reached = short_coming (place_of c) w x tenure.at frame
        by Zero x tenure command frame acts seat reached = elsewhere_coming (place_of c) w x tenure.at frame at_is (reached_station w tenure reached) (away x tenure command acts seat reached)

  silent_prepared : (c : Channel) →
      target_in s.state ≡ c ∷ [] →
      commanded_target s.state ≡ None →
      (e : Event) →
      e ≡ event →
      arriving (place_of c) w ≡ [] →
      arriving (place_of c) (actors_after w e) ≡ []
  unfolding event_after
  silent_prepared c is idle (AirUp number sapi) now none = frame_prepared c is idle number sapi none
  silent_prepared c is idle e now none = by (comes_step (place_of c) w e (subst (AllByRecursion (λ d. d.station ≢ SWITCH_LINK)) is rest_placed.1).0 good (ap is_relays now ∙ beside) refl) where
    by : Comes (place_of c) w (actors_after w e) → arriving (place_of c) (actors_after w e) ≡ []
    by (same remains_so) = remains_so ∙ none
    by (begun down rest all) = (both_empty (arriving (place_of c) (actors_after w e)) rest (sym none ∙ all)).0

  awaited : (c : Channel) → target_in s.state ≡ c ∷ [] → commanded_target s.state ≡ None → IsAwaited w c → IsAwaited v c
  awaited c is idle a = record {
    silent = silent_prepared c is idle event refl a.silent;
    uncommanded = none_down (place_of c) w event (subst (AllByRecursion (λ d. d.station ≢ SWITCH_LINK)) is rest_placed.1).0 beside a.uncommanded;
  }

  -- ---- a target to which the mobile was commanded

  module _ (t : Target) (is : target_in s.state ≡ t.channel ∷ []) (to : commanded_target s.state ≡ Some t) (led : IsLedBy w p t) where
    abbrev at : Place
    at = place_of t.channel

    abbrev text : List ℕ
    text = complete t.change

    at_is : t.channel.station ≢ SWITCH_LINK
    at_is = (subst (AllByRecursion (λ d. d.station ≢ SWITCH_LINK)) is rest_placed.1).0

    sits : Sits w s.serving (Some t) p.seat
    sits = subst (λ (o : Option Target). Sits w s.serving o p.seat) to lined.sits

    apart : place_of s.serving ≢ at
    apart same_place = false≢true (sym (subst (AllByRecursion (IsApart s.serving)) is rest_apart).0 ∙ hit) where
      hit : is_place (place_of s.serving) at ≡ true
      hit = ap (λ (x : Place). is_place x at) same_place ∙ ap (λ (b : Bool). b && (at.number == at.number)) (eq-eqb at.station at.station refl) ∙ eq-eqb at.number at.number refl

    -- on the serving channel, or on the target
    data Seated (tenure : Tenure) : Type 0 where
      serves : tenure ≡ tenure_at w (place_of s.serving) → Seated tenure
      arrived : tenure ≡ tenure_at w at → Seated tenure

    seat_commanded : (seat : Seat) (tenure : Tenure) (command : Option Command) →
        seat ≡ On tenure command →
        Sits w s.serving (Some t) seat →
        Seated tenure
    seat_commanded (On here other) tenure command same_seat (unchanged there remembers) = serves (ap (λ (x : Seat). tenure_in x tenure) (sym same_seat) ∙ there) where
      tenure_in : Seat → Tenure → Tenure
      tenure_in (On a b) d = a
      tenure_in x d = d
    seat_commanded (On here other) tenure command same_seat (at_its_target there) = arrived (ap (λ (x : Seat). tenure_in x tenure) (sym same_seat) ∙ there) where
      tenure_in : Seat → Tenure → Tenure
      tenure_in (On a b) d = a
      tenure_in x d = d
    seat_commanded _ tenure command same_seat sat = absurd cc

    still_up : is_up v t.channel.station ≡ true → is_up w t.channel.station ≡ true
    still_up up = by (is_up w t.channel.station) refl where
      by : (b : Bool) → is_up w t.channel.station ≡ b → is_up w t.channel.station ≡ true
      by true there = there
      by false down = absurd (false≢true (sym (down_after t.channel.station w event down) ∙ up))

    -- ---- no frame

    quiet_led : is_frame event ≡ false → IsLedBy v q t
    quiet_led no_frame = by (comes_step at w event at_is good beside no_frame) where
      by : Comes at w v → IsLedBy v q t
      by (same remains_so) = record {
        first = subst (BeginWith text) (sym remains_so) led.first;
        gives = λ none up. gives_step w mobile p text at found (led.gives (sym remains_so ∙ none) (still_up up)) s.serving t refl refl apart sits event no_frame q found_then;
      }
      by (begun down rest all) = record {
        first = begin_front text (arriving at v) rest (subst (BeginWith text) all led.first);
        gives = λ none up. absurd (false≢true (sym down ∙ up));
      }

    -- ---- a frame

    -- what is put of another frame, or of another mobile, is elsewhere
    elsewhere_led : (number : ℕ) (x after : Mobile) (u : Actors) → mobile_of w number ≡ Some x → after.number ≡ x.number → u.mobiles ≡ put_back after w.mobiles → arriving at u ≡ arriving at w → is_up u t.channel.station ≡ is_up w t.channel.station
        → (x ≡ p → IsOnPlace after.seat at → (IsOnPlace x.seat at) × (after.end.zero ≡ x.end.zero)) → (y : Mobile) → mobile_of u mobile ≡ Some y → IsLedBy u y t
    elsewhere_led number x after u acts number_is mobiles comes links keeps y found_y = record {
      first = subst (BeginWith text) (sym comes) led.first;
      gives = λ none up. still_put w mobile p text at found (led.gives (sym comes ∙ none) (sym links ∙ up)) w.mobiles number x after acts number_is refl
          (λ own on. let kept = keeps own on in
          ap (λ (link : _). first_in (to_be_taken link)) kept.1 ∙ subst (Gives text at) (sym own) (led.gives (sym comes ∙ none) (sym links ∙ up)) kept.0)
          y (ap (find (has_number mobile)) (sym mobiles) ∙ found_y);
    }

    -- the first frame on the target is COMPLETE
    there_led : (x : Mobile) (tenure : Tenure) (command : Option Command) (frame : List ℕ) →
        x ≡ p →
        x.seat ≡ On tenure command →
        tenure ≡ tenure_at w at →
        frame_in (frame_answer x.end Zero) ≡ Some frame →
        is_reached w tenure ≡ true →
        (y : Mobile) →
        IsLedBy (brought w x tenure.at Zero frame) y t
    there_led x tenure command frame own seat there lent reached y =
        let here : tenure.at ≡ at = ap (λ (k : Tenure). k.at) there in
        let up : is_station_up w tenure.at.station ≡ true = (reached_up w tenure reached).0 in
        let all : arriving at (brought w x tenure.at Zero frame) ≡ arriving at w ++ frame ∷ [] =
        subst (λ (z : Place). arriving z (brought w x tenure.at Zero frame) ≡ arriving z w ++ frame ∷ []) here (there_coming w x tenure.at frame (reached_station w tenure reached) up (reached_up w tenure reached).1) in
        record {
          first = subst (BeginWith text) (sym all) (begin_last text frame (arriving at w) (λ none. lent_first x.end.zero frame text (frame_lent x.end frame lent).lent
              (ap (λ (z : Mobile). first_in (to_be_taken z.end.zero)) own
              ∙ led.gives none (ap (λ (z : Place). is_up w z.station) (sym here) ∙ (up_right tenure.at.station w up).1) (subst (λ (z : Seat). IsOnPlace z at) (sym seat ∙ ap (λ (z : Mobile). z.seat) own) here))) led.first);
          gives = λ none up_then. absurd (none_last (arriving at w) frame (sym all ∙ none));
        }

    frame_led : (number : ℕ) (sapi : Sapi) (y : Mobile) →
        mobile_of (unwrap_or (after_air_up w number sapi) w) mobile ≡ Some y →
        IsLedBy (unwrap_or (after_air_up w number sapi) w) y t
    frame_led number sapi y found_y = after_taken P (after_air_up w number sapi) w (air_up_leads P w number sapi (λ x tenure command frame acts seat lent reached. by sapi x tenure command frame acts seat lent reached)) (λ z found_z. subst (λ (k : Mobile). IsLedBy w k t) (same_Some _ _ (sym found ∙ found_z)) led) y found_y where
      P : Actors → Type 0
      P u = (z : Mobile) → mobile_of u mobile ≡ Some z → IsLedBy u z t

      on_serving : (x : Mobile) (tenure : Tenure) (command : Option Command) (frame : List ℕ) →
          mobile_of w number ≡ Some x →
          x.seat ≡ On tenure command →
          is_reached w tenure ≡ true →
          is_place tenure.at at ≡ false →
          P (brought w x tenure.at Zero frame)
      on_serving x tenure command frame acts seat reached away = elsewhere_led number x (record (framed x Zero) { opens = false }) (brought w x tenure.at Zero frame) acts refl refl (elsewhere_coming at w x tenure.at frame at_is (reached_station w tenure reached) away) refl
          (λ own on. absurd (false≢true (sym away ∙ there (subst (λ (z : Seat). IsOnPlace z at) seat on)))) where
            there : tenure.at ≡ at → is_place tenure.at at ≡ true
            there same_place = ap (λ (z : Place). is_place z at) same_place ∙ ap (λ (b : Bool). b && (at.number == at.number)) (eq-eqb at.station at.station refl) ∙ eq-eqb at.number at.number refl

      by_seat : (x : Mobile) (tenure : Tenure) (command : Option Command) (frame : List ℕ) →
          x ≡ p →
          mobile_of w number ≡ Some x →
          x.seat ≡ On tenure command →
          frame_in (frame_answer x.end Zero) ≡ Some frame →
          is_reached w tenure ≡ true →
          Seated tenure →
          P (brought w x tenure.at Zero frame)
      by_seat x tenure command frame own acts seat lent reached (serves there) = on_serving x tenure command frame acts seat reached (serving_elsewhere t.channel is tenure there)
      by_seat x tenure command frame own acts seat lent reached (arrived there) = λ z found_z. there_led x tenure command frame own seat there lent reached z

      by : (sapi : Sapi) (x : Mobile) (tenure : Tenure) (command : Option Command) (frame : List ℕ) →
          mobile_of w number ≡ Some x →
          x.seat ≡ On tenure command →
          frame_in (frame_answer x.end sapi) ≡ Some frame →
          is_reached w tenure ≡ true →
          P (brought w x tenure.at sapi frame)
      by Three x tenure command frame acts seat lent reached =
          elsewhere_led number x (framed x Three) (brought w x tenure.at Three frame) acts refl refl (short_coming at w x tenure.at frame) refl (λ own on. (on, three_zero x.end))
      by Zero x tenure command frame acts seat lent reached = elim (cases_Bool (nat_eq number mobile)) [
        | inr miss ↦ on_serving x tenure command frame acts seat reached (other_elsewhere t.channel is number x tenure command (eqb-false number mobile miss) acts seat reached)
        | inl hit ↦
            let own : x ≡ p = own_of number x (eqb-true number mobile hit) acts in
            by_seat x tenure command frame own acts seat lent reached (seat_commanded p.seat tenure command (ap (λ (z : Mobile). z.seat) (sym own) ∙ seat) sits)
      ]

  led_by : (t : Target) →
      target_in s.state ≡ t.channel ∷ [] →
      commanded_target s.state ≡ Some t →
      IsLedBy w p t →
      (e : Event) →
      e ≡ event →
      IsLedBy (actors_after w e) q t
  unfolding event_after
  led_by t is to led (AirUp number sapi) now = frame_led t is to led number sapi q (ap (λ (x : Event). mobile_of (actors_after w x) mobile) now ∙ found_then)
  led_by t is to led e now = subst (λ (x : Event). IsLedBy (actors_after w x) q t) (sym now) (quiet_led t is to led (ap is_frame (sym now)))

  pub beside_fresh : (state : State) → s.state ≡ state → IsFreshIn w p state → IsFreshIn v q state
  beside_fresh (Live reference (Preparing target)) is fresh = awaited target.channel (ap target_in is) (ap commanded_target is) fresh
  beside_fresh (Live reference (Changing target)) is fresh = led_by target (ap target_in is) (ap commanded_target is) fresh event refl
  beside_fresh _ is fresh = tt
