-- SPDX-License-Identifier: MIT OR Apache-2.0
-- Connections remain lined up at every event in which the relay takes no part, whatever happened
-- before.
use Rattle.world_laws.proofs.Prelude.{◌≡◌, ◌≢◌, ℕ, zero, suc, ◌-◌, nat_eq, Bool, true, false, if◌then◌else◌, cond, List, [], ◌∷◌, ◌++◌}
use Rattle.world_laws.proofs.Prelude.{find, Option, Some, None, Ok, refl, ap, ◌∙◌, subst, AllByRecursion, eqb-false, Bssap, Transfer, Sccp}
use Rattle.world_laws.proofs.Prelude.{SWITCH_LINK, Connection, used_channels, place_of, first_message, first_of_messages, after_next}
use Rattle.world_laws.proofs.Prelude.{SwitchConnection, Clearing, after_clear, assignment_request, clear_command, connections_after_clear}
use Rattle.world_laws.proofs.Prelude.{data_forms_on, dlci_for, with_stage, SwitchState, Rsl, rsl_reading, rsl_text, Parameters, new_mobile}
use Rattle.world_laws.proofs.Prelude.{MobileState, Event, Upper, Connect, AirUp, AirAck, AirDown, AirDownLost, Move, Touch, Arrive, Return}
use Rattle.world_laws.proofs.Prelude.{BasePush, SwitchDoes, Report, SwitchAction, Assign, Clear, Dtap, station_item, switch_item, with_item}
use Rattle.world_laws.proofs.Prelude.{pushed_by_station, pushed_by_switch, after_base_push, may_send_on, sent_on, is_layer_3}
use Rattle.world_laws.proofs.Prelude.{after_switch_does, Actors, Mobile, modulus_in, new_actors, base_of, with_base, Good, end_of, good_new}
use Rattle.world_laws.proofs.Prelude.{good_all, after_taken, IsSound, sound_read, same_Some, Call, IsKept-calls, all_calls, MobilesLive-new}
use Rattle.world_laws.proofs.Prelude.{coming_up, is_of_peer, taken_in, taken_of, AreLinedUp, is_beside_relay, MobilesKeepLineUps}
use Rattle.std.proofs.Common.{slice_set, slice_get}
use Rattle.msc_end.specs.Switch.{connection_of}
use Rattle.world_model.specs.Life.{event_after}
use Rattle.world_model.specs.CallsMade.{HasMadeCalls}
use Rattle.world_model.proofs.Leads.{OfTaken}
use Rattle.world_laws.proofs.Apart.{all_both}
use Rattle.world_laws.proofs.MobileEvents.{Before, quiet_remains, upper_remains, ack_remains, frame_remains, heard_remains, lost_remains, move_remains}
use Rattle.world_laws.proofs.MobileEvents.{arrive_remains, return_remains, connect_remains, touch_remains, report_remains}
use Rattle.world_laws.proofs.Projecting.{coming_pushed, coming_of_switch}
use Rattle.world_laws.proofs.Quiet.{down_with_base, all_of}
use Rattle.world_laws.proofs.Seeing.{SameTenures, SeesSame}
use Rattle.world_laws.proofs.Spots.{tenure_with_base}
use Rattle.world_laws.proofs.Events.{world}

-- ---- the first message that a station made is handed to the inbox

pub first_read : (messages : List Rsl) (message : Rsl) →
    AllByRecursion IsSound messages →
    first_of_messages messages ≡ Some message →
    rsl_reading (rsl_text message) ≡ Ok message
first_read [] message all is = absurd cc
first_read (first ∷ others) message all is = sound_read message (subst IsSound (same_Some _ _ is) all.0)

sees_pushed : {w : Actors} {s : Connection} (station : ℕ) (message : Rsl) → AllByRecursion (λ c. c.station ≢ SWITCH_LINK) (used_channels s) → station ≢ SWITCH_LINK → first_message (base_of w station) ≡ Some message → rsl_reading (rsl_text message) ≡ Ok message
    → SeesSame w (with_item (station_item station message) (with_base station (after_next (base_of w station)) w)) s
unfolding SameTenures
sees_pushed {w} {s} station message placed station_is first read = record {
  arriving = all_both (λ c. c.station ≢ SWITCH_LINK) (λ c. c.station ≢ SWITCH_LINK) (λ c. coming_up (with_item (station_item station message) (with_base station (after_next (base_of w station)) w)) (place_of c) ≡ coming_up w (place_of c)) (used_channels s)
      (λ c c_is _. coming_pushed w station message (place_of c) c_is station_is first read) placed placed;
  up = λ n. refl;
  serving = down_with_base w station (after_next (base_of w station)) (place_of s.serving);
  target = λ t is. down_with_base w station (after_next (base_of w station)) (place_of t.channel);
  tenures = λ at. tenure_with_base w station (after_next (base_of w station)) at;
  waiting = refl;
  taken = refl;
}

-- what the switch made is of no station
sees_switch_pushed : {w : Actors} {s : Connection} (first : Sccp) (others : List Sccp) →
    SeesSame w (with_item (switch_item first) (record w { switch_made = others })) s
unfolding SameTenures
sees_switch_pushed {w} {s} first others = record {
  arriving = all_of (λ c. coming_up (with_item (switch_item first) (record w { switch_made = others })) (place_of c) ≡ coming_up w (place_of c)) (used_channels s) (λ c. coming_of_switch w first others (place_of c));
  up = λ n. refl;
  serving = refl;
  target = λ t is. refl;
  tenures = λ at. refl;
  waiting = refl;
  taken = refl;
}

push_remains : {m : ℕ} {w : Actors} {mobile : ℕ} {p : Mobile} {s : Connection} (source : ℕ) →
    Good w →
    Before m w mobile p s →
    OfTaken (λ v. AreLinedUp m v mobile s) (after_base_push w source)
unfolding OfTaken
push_remains {m} {w} {mobile} {p} {s} source good h = by_source (nat_eq source SWITCH_LINK) refl where
  of_switch : (made : List Sccp) → OfTaken (λ v. AreLinedUp m v mobile s) (pushed_by_switch made w)
  of_switch [] = tt
  of_switch (first ∷ others) = quiet_remains w (with_item (switch_item first) (record w { switch_made = others })) mobile p h.found refl (sees_switch_pushed first others) h.lined

  of_station : source ≢ SWITCH_LINK →
      (o : Option Rsl) →
      first_message (base_of w source) ≡ o →
      OfTaken (λ v. AreLinedUp m v mobile s) (pushed_by_station source o w)
  of_station is None first = tt
  of_station is (Some message) first = quiet_remains w _ mobile p h.found refl (sees_pushed source message h.lined.placed is first (first_read (base_of w source).messages message (end_of w source good).made first)) h.lined

  by_source : (b : Bool) →
      nat_eq source SWITCH_LINK ≡ b →
      OfTaken (λ v. AreLinedUp m v mobile s) (if b then pushed_by_switch w.switch_made w else pushed_by_station source (first_message (base_of w source)) w)
  by_source true is = of_switch w.switch_made
  by_source false is = of_station (eqb-false source SWITCH_LINK is) (first_message (base_of w source)) refl

-- ---- the switch acts of its own

-- clearing leaves what it took
cleared_same : (number n : ℕ) (cs : List SwitchConnection) (c : SwitchConnection) →
    slice_get cs n ≡ Some c →
    taken_in (find (is_of_peer number) (slice_set cs n (with_stage c Clearing))) ≡ taken_in (find (is_of_peer number) cs)
cleared_same number n [] c is = absurd cc
cleared_same number zero (x ∷ cs) c is = subst (λ (y : SwitchConnection). taken_in (find (is_of_peer number) (with_stage y Clearing ∷ cs)) ≡ taken_in (find (is_of_peer number) (x ∷ cs))) (same_Some _ _ is) (by_peer (is_of_peer number x)) where
  by_peer : (b : Bool) →
      taken_in (cond b (Some (with_stage x Clearing)) (find (is_of_peer number) cs)) ≡ taken_in (cond b (Some x) (find (is_of_peer number) cs))
  by_peer true = refl
  by_peer false = refl
cleared_same number (suc n) (x ∷ cs) c is = by_peer (is_of_peer number x) (cleared_same number n cs c is) where
  by_peer : (b : Bool) →
      taken_in (find (is_of_peer number) (slice_set cs n (with_stage c Clearing))) ≡ taken_in (find (is_of_peer number) cs) →
      taken_in (cond b (Some x) (find (is_of_peer number) (slice_set cs n (with_stage c Clearing)))) ≡ taken_in (cond b (Some x) (find (is_of_peer number) cs))
  by_peer true others = refl
  by_peer false others = others

pub clear_same : (number n : ℕ) (cs : List SwitchConnection) →
    taken_in (find (is_of_peer number) (connections_after_clear cs n (connection_of cs n))) ≡ taken_in (find (is_of_peer number) cs)
clear_same number n cs = by_number (nat_eq n 0) where
  by_connection : (o : Option SwitchConnection) →
      slice_get cs (n - 1) ≡ o →
      taken_in (find (is_of_peer number) (connections_after_clear cs n o)) ≡ taken_in (find (is_of_peer number) cs)
  by_connection None is = refl
  by_connection (Some c) is = cleared_same number (n - 1) cs c is

  by_number : (b : Bool) →
      taken_in (find (is_of_peer number) (connections_after_clear cs n (if b then None else slice_get cs (n - 1)))) ≡ taken_in (find (is_of_peer number) cs)
  by_number true = refl
  by_number false = by_connection (slice_get cs (n - 1)) refl

sees_switch_does : {w : Actors} {s : Connection} (next : SwitchState) (made : List Sccp) →
    taken_in (find (is_of_peer s.number) next.connections) ≡ taken_of w s.number →
    SeesSame w (record w { switch = next; switch_made = made }) s
unfolding SameTenures
sees_switch_does {w} {s} next made taken = record {
  arriving = all_of (λ c. coming_up w (place_of c) ≡ coming_up w (place_of c)) (used_channels s) (λ c. refl);
  up = λ n. refl;
  serving = refl;
  target = λ t is. refl;
  tenures = λ at. refl;
  waiting = refl;
  taken = taken;
}

does_remains : {m : ℕ} {w : Actors} {mobile : ℕ} {p : Mobile} {s : Connection} (action : SwitchAction) →
    Before m w mobile p s →
    OfTaken (λ v. AreLinedUp m v mobile s) (after_switch_does w action)
unfolding OfTaken
does_remains {m} {w} {mobile} {p} {s} action h = by_action action where
  on : (connection : ℕ) (message : Bssap) (next : SwitchState) →
      taken_in (find (is_of_peer s.number) next.connections) ≡ taken_of w s.number →
      OfTaken (λ v. AreLinedUp m v mobile s) (sent_on w connection message next)
  on connection message next taken = by_open (may_send_on w connection) where
    by_open : (b : Bool) →
        OfTaken (λ v. AreLinedUp m v mobile s) (if b then Some (record w { switch = next; switch_made = w.switch_made ++ data_forms_on (connection_of w.switch.connections connection) message }) else None)
    by_open true = quiet_remains w _ mobile p h.found refl (sees_switch_does next (w.switch_made ++ data_forms_on (connection_of w.switch.connections connection) message) taken) h.lined
    by_open false = tt

  by_action : (action : SwitchAction) → OfTaken (λ v. AreLinedUp m v mobile s) (after_switch_does w action)
  by_action (Assign connection) = on connection assignment_request w.switch refl
  by_action (Clear connection) = on connection clear_command (after_clear w.switch connection) (clear_same s.number connection w.switch.connections)
  by_action (Dtap connection sapi message) = by_length (is_layer_3 message) where
    by_length : (b : Bool) →
        OfTaken (λ v. AreLinedUp m v mobile s) (if b then sent_on w connection (Transfer (dlci_for sapi) message) w.switch else None)
    by_length true = on connection (Transfer (dlci_for sapi) message) w.switch refl
    by_length false = tt

-- ---- each event

beside_remains : {m : ℕ} {w : Actors} {mobile : ℕ} {p : Mobile} {s : Connection} (event : Event) →
    is_beside_relay event ≡ true →
    Good w →
    Before m w mobile p s →
    OfTaken (λ v. AreLinedUp m v mobile s) (event_after w event)
unfolding event_after
beside_remains (Upper number sapi message) beside good h = upper_remains number sapi message h
beside_remains (Connect number station initial accepts) beside good h = connect_remains number station initial accepts h
beside_remains (AirUp number sapi) beside good h = frame_remains number sapi h
beside_remains (AirAck number sapi) beside good h = ack_remains number sapi h
beside_remains (AirDown number) beside good h = heard_remains number h
beside_remains (AirDownLost number) beside good h = lost_remains number h
beside_remains (Move number) beside good h = move_remains number h
beside_remains (Touch number) beside good h = touch_remains number h
beside_remains (Arrive number) beside good h = arrive_remains number h
beside_remains (Return number) beside good h = return_remains number h
beside_remains (BasePush source) beside good h = push_remains source good h
beside_remains (SwitchDoes action) beside good h = does_remains action h
beside_remains (Report number report) beside good h = report_remains number report h
beside_remains _ beside good h = absurd cc

pub mobiles_keep_line_ups_new : (settings : Parameters) (events : List Event) (event : Event) → MobilesKeepLineUps settings events event
mobiles_keep_line_ups_new settings events event mobile s beside alone lined =
    let w : Actors = world settings events in
    let calls : List Call = all_calls (new_actors settings) events mobile in
    let made_calls : HasMadeCalls (modulus_in settings) calls lined.one = MobilesLive-new settings events mobile lined.one lined.found in
    after_taken (λ v. AreLinedUp (modulus_in settings) v mobile s) (event_after w event) w
    (beside_remains event beside (good_all (new_actors settings) events (good_new settings)) (record {
      found = lined.found;
      modulus = ap (λ (e : MobileState). e.modulus) made_calls.is ∙ (IsKept-calls (new_mobile (modulus_in settings)) calls).modulus;
      lined = lined.lined;
      alone = alone;
    })) lined
