-- SPDX-License-Identifier: MIT OR Apache-2.0
-- Connections remain lined up at events in which the relay takes no part.
use Rattle.world_laws.proofs.Prelude.{◌≡◌, ◌≢◌, ℕ, ◌+◌, ◌==◌, ◌&&◌, ◌%◌, nat_eq, nat_le, Bool, true, false, if◌then◌else◌, List, [], ◌∷◌}
use Rattle.world_laws.proofs.Prelude.{◌++◌, find, Option, Some, None, refl, sym, ap, ◌∙◌, subst, append_assoc, flat_map, is_none, eqb-true}
use Rattle.world_laws.proofs.Prelude.{eqb-false, append-nil, Connection, used_channels, place_of, Sapi, Zero, Three, BaseState, after_tell}
use Rattle.world_laws.proofs.Prelude.{after_establish, establish_indication, data_indication, MobilePlace, Stage, New, Connected}
use Rattle.world_laws.proofs.Prelude.{frame_answer, after_queue, refusal_of_send, after_acked, after_frame, after_frame_at, after_leave}
use Rattle.world_laws.proofs.Prelude.{after_arrival, refusal_of_connect, MobileState, sapi_of, FIRST_SDCCH, MAIN_LINK_SAPI_3, SACCH_SAPI_3}
use Rattle.world_laws.proofs.Prelude.{AirMessage, Command, On, Moving, Tenure, may_send, sent_by, connected, channel_required, is_new}
use Rattle.world_laws.proofs.Prelude.{frame_in, signalling_brought, short_message_brought, framed, brought, hearing, seated, complete}
use Rattle.world_laws.proofs.Prelude.{failure, Asking, handover_detection, measurement_result, after_upper, after_connecting, after_air_up}
use Rattle.world_laws.proofs.Prelude.{after_air_ack, after_air_down, after_air_down_lost, after_move, after_touch, after_arriving}
use Rattle.world_laws.proofs.Prelude.{after_return, after_report, Actors, Mobile, Spot, has_number, mobile_of, put_back, with_mobile}
use Rattle.world_laws.proofs.Prelude.{is_station_up, base_of, with_base, spot_at, with_spot, is_reached, back_found, back_other}
use Rattle.world_laws.proofs.Prelude.{number_found, base_with_spot, reached_up, up_right, and_left, and_right, only_if-leads}
use Rattle.world_laws.proofs.Prelude.{by_mobile-leads, connect_leads, air_up_leads, air_ack_leads, air_down_leads, air_down_lost_leads}
use Rattle.world_laws.proofs.Prelude.{move_leads, touch_leads, arrive_leads, return_leads, report-leads, hearing-number, control_complete}
use Rattle.world_laws.proofs.Prelude.{same_Some, spot_with_base, found_front, after_up, reported_at, OfTaken, of_main, made_of}
use Rattle.world_laws.proofs.Prelude.{leading_from_air, IsAlone, LinedUp, AreLinedUp, control_failure}
use Rattle.world_laws.specs.LineUp.Places.{Item}
use Rattle.mobile_end.specs.declared.mobile_end.Place.TheVariants as places
use Rattle.world_model.specs.Mobiles.{left}
use Rattle.world_model.proofs.Leads.{FromAir}
use Rattle.world_laws.proofs.AirUp.{all_other, own_air_up}
use Rattle.world_laws.proofs.OwnMobile.{own_upper, own_air_ack}
use Rattle.world_laws.proofs.OwnMoves.{own_lost, own_heard, own_move, sees_established, own_arrive, own_return}
use Rattle.world_laws.proofs.Quiet.{ArePlaced, down_with_base, sees_itself, sees_mobiles, sees_told, sees_spot, sees_elsewhere}
use Rattle.world_laws.proofs.Seeing.{SameTenures, SeesSame, lined_up_same}
use Rattle.world_laws.proofs.Spots.{tenure_with_base}

-- ---- whose event it is

data Whose (number mobile : ℕ) (p q : Mobile) : Type 0 where
  own : number ≡ mobile → q ≡ p → Whose number mobile p q
  other : number ≢ mobile → Whose number mobile p q

whose : (w : Actors) (number mobile : ℕ) (p q : Mobile) →
    mobile_of w mobile ≡ Some p →
    mobile_of w number ≡ Some q →
    Whose number mobile p q
whose w number mobile p q found acts = by_number (nat_eq number mobile) refl where
  by_number : (b : Bool) → nat_eq number mobile ≡ b → Whose number mobile p q
  by_number true is = own (eqb-true number mobile is) (same_Some _ _ (sym acts ∙ ap (mobile_of w) (eqb-true number mobile is) ∙ found))
  by_number false is = other (eqb-false number mobile is)

own_remains : {m : ℕ} {s : Connection} (w u : Actors) (mobile : ℕ) (p q : Mobile) →
    mobile_of w mobile ≡ Some p →
    u.mobiles ≡ w.mobiles →
    q.number ≡ p.number →
    LinedUp m (with_mobile q u) q s →
    AreLinedUp m (with_mobile q u) mobile s
own_remains w u mobile p q found same number lined = record {
  one = q;
  found = ap (λ (n : ℕ). find (has_number n) (put_back q u.mobiles)) (sym is)
      ∙ back_found q u.mobiles p (ap (λ (ms : List Mobile). find (has_number q.number) ms) same ∙ ap (λ (n : ℕ). find (has_number n) w.mobiles) is ∙ found);
  lined = lined;
} where
  is : q.number ≡ mobile
  is = number ∙ number_found mobile w.mobiles p found

other_remains : {m : ℕ} {s : Connection} (w u : Actors) (number mobile : ℕ) (p before q : Mobile) →
    mobile_of w mobile ≡ Some p →
    mobile_of w number ≡ Some before →
    u.mobiles ≡ w.mobiles →
    q.number ≡ before.number →
    number ≢ mobile →
    SeesSame w u s →
    LinedUp m w p s →
    AreLinedUp m (with_mobile q u) mobile s
other_remains w u number mobile p before q found acts same is differs sees lined = record {
  one = p;
  found = back_other q u.mobiles mobile (λ same_number. differs (sym (is ∙ number_found number w.mobiles before acts) ∙ same_number)) ∙ ap (λ (ms : List Mobile). find (has_number mobile) ms) same ∙ found;
  lined = lined_up_same p p (sees_mobiles (put_back q u.mobiles) sees) refl refl refl lined;
}

pub quiet_remains : {m : ℕ} {s : Connection} (w u : Actors) (mobile : ℕ) (p : Mobile) →
    mobile_of w mobile ≡ Some p →
    u.mobiles ≡ w.mobiles →
    SeesSame w u s →
    LinedUp m w p s →
    AreLinedUp m u mobile s
quiet_remains w u mobile p found same sees lined = record { one = p; found = ap (λ (ms : List Mobile). find (has_number mobile) ms) same ∙ found; lined = lined_up_same p p sees refl refl refl lined }

-- what holds before an event of a connection and its mobile
pub record Before (m : ℕ) (w : Actors) (mobile : ℕ) (p : Mobile) (s : Connection) : Type 0 where
  pub found : mobile_of w mobile ≡ Some p
  pub modulus : p.end.modulus ≡ m
  pub lined : LinedUp m w p s
  pub alone : IsAlone w mobile s

-- ---- upper layers, acknowledgements

pub upper_remains : {m : ℕ} {w : Actors} {mobile : ℕ} {p : Mobile} {s : Connection} (number : ℕ) (sapi : Sapi) (message : List ℕ) →
    Before m w mobile p s →
    OfTaken (λ v. AreLinedUp m v mobile s) (after_upper w number sapi message)
upper_remains {m} {w} {mobile} {p} {s} number sapi message h = by_mobile-leads P w number (sent_by w sapi message) (λ q acts.
    only_if-leads P (may_send q.seat && is_none (refusal_of_send q.end sapi message)) (with_mobile (record q { end = after_queue q.end sapi message }) w)
    (λ may. by_whose q (whose w number mobile p q h.found acts) acts (and_right (may_send q.seat) (is_none (refusal_of_send q.end sapi message)) may))) where
      P : Actors → Type 0
      P v = AreLinedUp m v mobile s

      by_whose : (q : Mobile) →
          Whose number mobile p q →
          mobile_of w number ≡ Some q →
          is_none (refusal_of_send q.end sapi message) ≡ true →
          AreLinedUp m (with_mobile (record q { end = after_queue q.end sapi message }) w) mobile s
      by_whose q (own is same) acts may = subst (λ (x : Mobile). is_none (refusal_of_send x.end sapi message) ≡ true → AreLinedUp m (with_mobile (record x { end = after_queue x.end sapi message }) w) mobile s) (sym same)
          (λ may. own_remains w w mobile p (record p { end = after_queue p.end sapi message }) h.found refl refl
          (lined_up_same _ _ (sees_mobiles _ (sees_itself w s)) refl refl refl (own_upper sapi message h.modulus may h.lined))) may
      by_whose q (other differs) acts may = other_remains w w number mobile p q (record q { end = after_queue q.end sapi message }) h.found acts refl refl differs (sees_itself w s) h.lined

pub ack_remains : {m : ℕ} {w : Actors} {mobile : ℕ} {p : Mobile} {s : Connection} (number : ℕ) (sapi : Sapi) →
    Before m w mobile p s →
    OfTaken (λ v. AreLinedUp m v mobile s) (after_air_ack w number sapi)
ack_remains {m} {w} {mobile} {p} {s} number sapi h = air_ack_leads (λ v. AreLinedUp m v mobile s) w number sapi (λ q acts. by_whose q (whose w number mobile p q h.found acts) acts) where
  by_whose : (q : Mobile) →
      Whose number mobile p q →
      mobile_of w number ≡ Some q →
      AreLinedUp m (with_mobile (record q { end = after_acked q.end sapi }) w) mobile s
  by_whose q (own is same) acts = subst (λ (x : Mobile). AreLinedUp m (with_mobile (record x { end = after_acked x.end sapi }) w) mobile s) (sym same)
      (own_remains w w mobile p (record p { end = after_acked p.end sapi }) h.found refl refl (lined_up_same _ _ (sees_mobiles _ (sees_itself w s)) refl refl refl (own_air_ack sapi h.lined)))
  by_whose q (other differs) acts = other_remains w w number mobile p q (record q { end = after_acked q.end sapi }) h.found acts refl refl differs (sees_itself w s) h.lined

-- ---- frames

-- a frame of SAPI 3 brings nothing that is lined up
sees_short_message : {w : Actors} {s : Connection} (tenure : Tenure) (up : Bool) (frame : List ℕ) → ArePlaced (used_channels s) → is_reached w tenure ≡ true
    → SeesSame w (with_spot tenure.at (record (spot_at w tenure.at) { sapi_three_up = true }) (with_base tenure.at.station (short_message_brought (base_of w tenure.at.station) tenure.at.number up frame) w)) s
sees_short_message {w} {s} tenure up frame placed reached =
    let same = spot_with_base tenure.at.station (short_message_brought (base_of w tenure.at.station) tenure.at.number up frame) w tenure.at in
    sees_spot tenure.at (record (spot_at w tenure.at) { sapi_three_up = true }) (sym (ap (λ (x : Spot). flat_map leading_from_air x.air) same)) (sym (ap (λ (x : Spot). x.tenure) same)) (telling up) where
      base : BaseState
      base = base_of w tenure.at.station

      none_if : (a : Bool) → List Item
      none_if a = if a then [] else []

      brings_none : (channel : ℕ) → made_of channel (data_indication tenure.at.number Three frame ∷ []) ≡ []
      brings_none channel = by_both (nat_le FIRST_SDCCH tenure.at.number) (tenure.at.number == channel) where
        by_both : (a b : Bool) → (if b then of_main (sapi_of (if a then MAIN_LINK_SAPI_3 else SACCH_SAPI_3)) frame else []) ++ [] ≡ []
        by_both true true = refl
        by_both true false = refl
        by_both false true = refl
        by_both false false = refl

      telling : (b : Bool) → SeesSame w (with_base tenure.at.station (short_message_brought base tenure.at.number b frame) w) s
      telling true = sees_told tenure.at.station (after_up base tenure.at.number Three frame) (data_indication tenure.at.number Three frame ∷ []) placed (reached_up w tenure reached).0 (λ k. refl) refl refl brings_none (sees_itself w s)
      telling false =
          sees_told tenure.at.station (after_up (after_establish base tenure.at.number Three None) tenure.at.number Three frame) (establish_indication tenure.at.number Three None ∷ data_indication tenure.at.number Three frame ∷ []) placed (reached_up w tenure reached).0 (λ k. refl) refl
          (append_assoc base.messages (establish_indication tenure.at.number Three None ∷ []) (data_indication tenure.at.number Three frame ∷ []))
          (λ channel. ap (λ (items : List Item). none_if (tenure.at.number == channel) ++ items) (brings_none channel) ∙ append-nil (none_if (tenure.at.number == channel)) ∙ none_is (tenure.at.number == channel)) (sees_itself w s) where
            none_is : (b : Bool) → none_if b ≡ []
            none_is true = refl
            none_is false = refl

three_same : (e : MobileState) → ((after_frame e Three).sent ≡ e.sent) × ((after_frame e Three).zero ≡ e.zero)
three_same e = by_state e.stage e.place where
  by_state : (stage : Stage) (place : MobilePlace) →
      ((after_frame_at stage place e Three).sent ≡ e.sent) × ((after_frame_at stage place e Three).zero ≡ e.zero)
  by_state New places.OnChannel = (refl, refl)
  by_state New places.Moving = (refl, refl)
  by_state Connected places.OnChannel = (refl, refl)
  by_state Connected places.Moving = (refl, refl)

pub frame_remains : {m : ℕ} {w : Actors} {mobile : ℕ} {p : Mobile} {s : Connection} (number : ℕ) (sapi : Sapi) →
    Before m w mobile p s →
    OfTaken (λ v. AreLinedUp m v mobile s) (after_air_up w number sapi)
unfolding SameTenures
frame_remains {m} {w} {mobile} {p} {s} number sapi h = air_up_leads (λ v. AreLinedUp m v mobile s) w number sapi (λ q tenure command frame acts seat lent reached. by_sapi sapi q (whose w number mobile p q h.found acts) tenure command frame acts seat lent reached) where
  of_zero : (q : Mobile) →
      Whose number mobile p q →
      (tenure : Tenure) (command : Option Command) (frame : List ℕ) →
      mobile_of w number ≡ Some q →
      q.seat ≡ On tenure command →
      frame_in (frame_answer q.end Zero) ≡ Some frame →
      is_reached w tenure ≡ true →
      AreLinedUp m (brought w q tenure.at Zero frame) mobile s
  of_zero q (own is same) tenure command frame acts seat lent reached =
      subst (λ (x : Mobile). x.seat ≡ On tenure command → frame_in (frame_answer x.end Zero) ≡ Some frame → AreLinedUp m (brought w x tenure.at Zero frame) mobile s) (sym same)
      (λ seat lent. own_remains w (with_base tenure.at.station (signalling_brought (base_of w tenure.at.station) tenure.at.number p.opens frame) w) mobile p (record (framed p Zero) { opens = false }) h.found refl refl (own_air_up tenure command frame seat lent reached h.lined)) seat lent
  of_zero q (other differs) tenure command frame acts seat lent reached =
      other_remains w (with_base tenure.at.station (signalling_brought (base_of w tenure.at.station) tenure.at.number q.opens frame) w) number mobile p q (record (framed q Zero) { opens = false }) h.found acts refl refl differs (record {
        arriving = all_other w q tenure frame (used_channels s) reached h.lined.placed (h.alone number q tenure command differs acts seat reached);
        up = λ n. refl;
        serving = down_with_base w tenure.at.station _ (place_of s.serving);
        target = λ t is. down_with_base w tenure.at.station _ (place_of t.channel);
        tenures = same_tenures (signalling_brought (base_of w tenure.at.station) tenure.at.number q.opens frame);
        waiting = refl;
        taken = refl;
      }) h.lined where
        same_tenures : (base : BaseState) → SameTenures w (with_base tenure.at.station base w)
        same_tenures base at = tenure_with_base w tenure.at.station base at

  of_three : (q : Mobile) →
      Whose number mobile p q →
      (tenure : Tenure) (frame : List ℕ) →
      mobile_of w number ≡ Some q →
      is_reached w tenure ≡ true →
      AreLinedUp m (brought w q tenure.at Three frame) mobile s
  of_three q (own is same) tenure frame acts reached =
      subst (λ (x : Mobile). AreLinedUp m (brought w x tenure.at Three frame) mobile s) (sym same)
      (own_remains w _ mobile p (framed p Three) h.found refl refl
      (lined_up_same p (framed p Three) (sees_mobiles _ (sees_short_message tenure (spot_at w tenure.at).sapi_three_up frame h.lined.placed reached)) (three_same p.end).0 (three_same p.end).1 refl h.lined))
  of_three q (other differs) tenure frame acts reached =
      other_remains w (with_spot tenure.at (record (spot_at w tenure.at) { sapi_three_up = true }) (with_base tenure.at.station (short_message_brought (base_of w tenure.at.station) tenure.at.number (spot_at w tenure.at).sapi_three_up frame) w)) number mobile p q (framed q Three) h.found acts refl refl differs
      (sees_short_message tenure (spot_at w tenure.at).sapi_three_up frame h.lined.placed reached) h.lined

  by_sapi : (sapi : Sapi) (q : Mobile) →
      Whose number mobile p q →
      (tenure : Tenure) (command : Option Command) (frame : List ℕ) →
      mobile_of w number ≡ Some q →
      q.seat ≡ On tenure command →
      frame_in (frame_answer q.end sapi) ≡ Some frame →
      is_reached w tenure ≡ true →
      AreLinedUp m (brought w q tenure.at sapi frame) mobile s
  by_sapi Zero q whose tenure command frame acts seat lent reached = of_zero q whose tenure command frame acts seat lent reached
  by_sapi Three q whose tenure command frame acts seat lent reached = of_three q whose tenure frame acts reached

-- ---- messages from the air

pub on_asks : {tenure : Tenure} {command : Option Command} → On tenure command ≡ Asking → ⊥
on_asks is = absurd cc

-- of another mobile
air_other : {m : ℕ} {w : Actors} {mobile : ℕ} {p : Mobile} {s : Connection} (number : ℕ) (q after : Mobile) (tenure : Tenure) (command : Option Command) (spot : Spot) → Before m w mobile p s → number ≢ mobile → mobile_of w number ≡ Some q → q.seat ≡ On tenure command → is_reached w tenure ≡ true → after.number ≡ q.number → spot.tenure ≡ (spot_at w tenure.at).tenure
    → AreLinedUp m (with_mobile after (with_spot tenure.at spot w)) mobile s
air_other {w} {mobile} {p} {s} number q after tenure command spot h differs acts seat reached is same =
    other_remains w (with_spot tenure.at spot w) number mobile p q after h.found acts refl is differs
    (sees_elsewhere tenure.at spot (up_right tenure.at.station w (reached_up w tenure reached).0).0 h.lined.placed (h.alone number q tenure command differs acts seat reached) same (sees_itself w s)) h.lined

pub heard_remains : {m : ℕ} {w : Actors} {mobile : ℕ} {p : Mobile} {s : Connection} (number : ℕ) →
    Before m w mobile p s →
    OfTaken (λ v. AreLinedUp m v mobile s) (after_air_down w number)
unfolding FromAir
heard_remains {m} {w} {mobile} {p} {s} number h = air_down_leads (λ v. AreLinedUp m v mobile s) w number (λ q tenure command acts seat reached first others air. by_whose q (whose w number mobile p q h.found acts) tenure command acts seat reached first others air) where
  by_whose : (q : Mobile) → Whose number mobile p q → (tenure : Tenure) (command : Option Command) → mobile_of w number ≡ Some q → q.seat ≡ On tenure command → is_reached w tenure ≡ true → (first : AirMessage) (others : List AirMessage) → (spot_at w tenure.at).air ≡ first ∷ others
      → AreLinedUp m (with_mobile (hearing q first) (with_spot tenure.at (record (spot_at w tenure.at) { air = others }) w)) mobile s
  by_whose q (own is same) tenure command acts seat reached first others air =
      subst (λ (x : Mobile). x.seat ≡ On tenure command → AreLinedUp m (with_mobile (hearing x first) (with_spot tenure.at (record (spot_at w tenure.at) { air = others }) w)) mobile s) (sym same)
      (λ seat. own_remains w (with_spot tenure.at (record (spot_at w tenure.at) { air = others }) w) mobile p (hearing p first) h.found refl (hearing-number p first)
      (lined_up_same (hearing p first) (hearing p first) (sees_mobiles _ (sees_itself _ s)) refl refl refl (own_heard tenure command first others reached seat air h.lined))) seat
  by_whose q (other differs) tenure command acts seat reached first others air = air_other number q (hearing q first) tenure command (record (spot_at w tenure.at) { air = others }) h differs acts seat reached (hearing-number q first) refl

pub lost_remains : {m : ℕ} {w : Actors} {mobile : ℕ} {p : Mobile} {s : Connection} (number : ℕ) →
    Before m w mobile p s →
    OfTaken (λ v. AreLinedUp m v mobile s) (after_air_down_lost w number)
unfolding FromAir
lost_remains {m} {w} {mobile} {p} {s} number h = air_down_lost_leads (λ v. AreLinedUp m v mobile s) w number (λ q tenure command acts seat reached first others air. by_whose q (whose w number mobile p q h.found acts) tenure command acts seat reached first others air) where
  by_whose : (q : Mobile) → Whose number mobile p q → (tenure : Tenure) (command : Option Command) → mobile_of w number ≡ Some q → q.seat ≡ On tenure command → is_reached w tenure ≡ true → (first : AirMessage) (others : List AirMessage) → (spot_at w tenure.at).air ≡ first ∷ others
      → AreLinedUp m (with_mobile q (with_spot tenure.at (record (spot_at w tenure.at) { air = others }) w)) mobile s
  by_whose q (own is same) tenure command acts seat reached first others air =
      subst (λ (x : Mobile). x.seat ≡ On tenure command → AreLinedUp m (with_mobile x (with_spot tenure.at (record (spot_at w tenure.at) { air = others }) w)) mobile s) (sym same)
      (λ seat. own_remains w (with_spot tenure.at (record (spot_at w tenure.at) { air = others }) w) mobile p p h.found refl refl
      (lined_up_same p p (sees_mobiles _ (sees_itself _ s)) refl refl refl (own_lost tenure command first others reached seat air h.lined))) seat
  by_whose q (other differs) tenure command acts seat reached first others air = air_other number q q tenure command (record (spot_at w tenure.at) { air = others }) h differs acts seat reached refl refl

-- ---- moves

pub move_remains : {m : ℕ} {w : Actors} {mobile : ℕ} {p : Mobile} {s : Connection} (number : ℕ) →
    Before m w mobile p s →
    OfTaken (λ v. AreLinedUp m v mobile s) (after_move w number)
move_remains {m} {w} {mobile} {p} {s} number h = move_leads (λ v. AreLinedUp m v mobile s) w number (λ q tenure command acts seat reached. by_whose q (whose w number mobile p q h.found acts) tenure command acts seat reached) where
  by_whose : (q : Mobile) →
      Whose number mobile p q →
      (tenure : Tenure) (command : Command) →
      mobile_of w number ≡ Some q →
      q.seat ≡ On tenure (Some command) →
      is_reached w tenure ≡ true →
      AreLinedUp m (left w q tenure command) mobile s
  by_whose q (own is same) tenure command acts seat reached = subst (λ (x : Mobile). x.seat ≡ On tenure (Some command) → AreLinedUp m (left w x tenure command) mobile s) (sym same)
      (λ seat. own_remains w _ mobile p (record p { end = after_leave p.end; seat = Moving tenure command; opens = false }) h.found refl refl (own_move tenure command seat h.lined)) seat
  by_whose q (other differs) tenure command acts seat reached = air_other number q (record q { end = after_leave q.end; seat = Moving tenure command; opens = false }) tenure (Some command) (record (spot_at w tenure.at) { air = []; sapi_three_up = false }) h differs acts seat reached refl refl

pub arrive_remains : {m : ℕ} {w : Actors} {mobile : ℕ} {p : Mobile} {s : Connection} (number : ℕ) →
    Before m w mobile p s →
    OfTaken (λ v. AreLinedUp m v mobile s) (after_arriving w number)
arrive_remains {m} {w} {mobile} {p} {s} number h = arrive_leads (λ v. AreLinedUp m v mobile s) w number (λ q from command acts seat reached. by_whose q (whose w number mobile p q h.found acts) from command acts seat reached) where
  by_whose : (q : Mobile) →
      Whose number mobile p q →
      (from : Tenure) (command : Command) →
      mobile_of w number ≡ Some q →
      q.seat ≡ Moving from command →
      is_reached w command.target ≡ true →
      AreLinedUp m (seated w q command.target (complete command.change)) mobile s
  by_whose q (own is same) from command acts seat reached = subst (λ (x : Mobile). x.seat ≡ Moving from command → AreLinedUp m (seated w x command.target (complete command.change)) mobile s) (sym same)
      (λ seat. own_remains w _ mobile p (record p { end = after_arrival p.end (complete command.change); seat = On command.target None }) h.found refl refl (own_arrive from command (complete command.change) seat reached (control_complete command.change) h.lined)) seat
  by_whose q (other differs) from command acts seat reached = other_remains w _ number mobile p q (record q { end = after_arrival q.end (complete command.change); seat = On command.target None }) h.found acts refl refl differs (sees_established command.target h.lined.placed reached) h.lined

pub return_remains : {m : ℕ} {w : Actors} {mobile : ℕ} {p : Mobile} {s : Connection} (number : ℕ) →
    Before m w mobile p s →
    OfTaken (λ v. AreLinedUp m v mobile s) (after_return w number)
return_remains {m} {w} {mobile} {p} {s} number h = return_leads (λ v. AreLinedUp m v mobile s) w number (λ q from command acts seat reached. by_whose q (whose w number mobile p q h.found acts) from command acts seat reached) where
  by_whose : (q : Mobile) →
      Whose number mobile p q →
      (from : Tenure) (command : Command) →
      mobile_of w number ≡ Some q →
      q.seat ≡ Moving from command →
      is_reached w from ≡ true →
      AreLinedUp m (seated w q from (failure command.change)) mobile s
  by_whose q (own is same) from command acts seat reached = subst (λ (x : Mobile). x.seat ≡ Moving from command → AreLinedUp m (seated w x from (failure command.change)) mobile s) (sym same)
      (λ seat. own_remains w _ mobile p (record p { end = after_arrival p.end (failure command.change); seat = On from None }) h.found refl refl (own_return from command (failure command.change) seat reached (control_failure command.change) h.lined)) seat
  by_whose q (other differs) from command acts seat reached = other_remains w _ number mobile p q (record q { end = after_arrival q.end (failure command.change); seat = On from None }) h.found acts refl refl differs (sees_established from h.lined.placed reached) h.lined

-- ---- what a station sends of its own accord

pub connect_remains : {m : ℕ} {w : Actors} {mobile : ℕ} {p : Mobile} {s : Connection} (number station : ℕ) (initial : List ℕ) (accepts : Bool) →
    Before m w mobile p s →
    OfTaken (λ v. AreLinedUp m v mobile s) (after_connecting w number station initial accepts)
connect_remains {m} {w} {mobile} {p} {s} number station initial accepts h = connect_leads (λ v. AreLinedUp m v mobile s) w number station initial accepts (λ may. record {
  one = p;
  found = found_front mobile p w.mobiles (connected w.modulus number initial accepts ∷ []) h.found;
  lined = lined_up_same p p (sees_told station (after_tell (base_of w station) (channel_required number)) (channel_required number ∷ []) h.lined.placed
      (and_right (is_new w number) (is_station_up w station) (and_left (is_new w number && is_station_up w station) (is_none (refusal_of_connect (Some initial))) may)) (λ k. refl) refl refl (λ channel. refl) (sees_mobiles _ (sees_itself w s))) refl refl refl h.lined;
})

pub touch_remains : {m : ℕ} {w : Actors} {mobile : ℕ} {p : Mobile} {s : Connection} (number : ℕ) →
    Before m w mobile p s →
    OfTaken (λ v. AreLinedUp m v mobile s) (after_touch w number)
touch_remains {m} {w} {mobile} {p} {s} number h = touch_leads (λ v. AreLinedUp m v mobile s) w number (λ command reached.
    quiet_remains w _ mobile p h.found refl (sees_told command.target.at.station (after_tell (base_of w command.target.at.station) (handover_detection command.target.at.number)) (handover_detection command.target.at.number ∷ []) h.lined.placed (reached_up w command.target reached).0 (λ k. refl) refl refl (λ channel. refl) (sees_itself w s)) h.lined)

pub report_remains : {m : ℕ} {w : Actors} {mobile : ℕ} {p : Mobile} {s : Connection} (number : ℕ) (report : List ℕ) →
    Before m w mobile p s →
    OfTaken (λ v. AreLinedUp m v mobile s) (after_report w number report)
report_remains {m} {w} {mobile} {p} {s} number report h = report-leads (λ v. AreLinedUp m v mobile s) w number report (λ tenure reached. by_tenure tenure reached) where
  by_tenure : (tenure : Tenure) → is_reached w tenure ≡ true → AreLinedUp m (reported_at w tenure.at report) mobile s
  by_tenure tenure reached =
      let spot : Spot = record (spot_at w tenure.at) { reports = ((spot_at w tenure.at).reports + 1) % 256 } in
      quiet_remains w _ mobile p h.found refl
      (sees_told tenure.at.station (after_tell (base_of (with_spot tenure.at spot w) tenure.at.station) (measurement_result tenure.at.number (spot_at w tenure.at).reports report)) (measurement_result tenure.at.number (spot_at w tenure.at).reports report ∷ []) h.lined.placed (reached_up w tenure reached).0
      (λ k. base_with_spot tenure.at spot w k) refl (ap (λ (b : BaseState). b.messages ++ measurement_result tenure.at.number (spot_at w tenure.at).reports report ∷ []) (base_with_spot tenure.at spot w tenure.at.station)) (λ channel. refl) (sees_spot tenure.at spot refl refl (sees_itself w s))) h.lined
