-- SPDX-License-Identifier: MIT OR Apache-2.0
-- The switch takes the first entry of its outbox: the connections remain lined up.
use Rattle.world_laws.proofs.Prelude.{◌≡◌, ◌≢◌, ℕ, ◌==◌, ◌&&◌, not, Bool, true, false, cond, List, [], ◌∷◌, ◌++◌, filter, map, find}
use Rattle.world_laws.proofs.Prelude.{Option, Some, None, refl, sym, ap, ◌∙◌, subst, append_assoc, AllByRecursion, flat_map, append-nil}
use Rattle.world_laws.proofs.Prelude.{map-append, Sccp, Channel, Out, SWITCH_LINK, Connection, undone, used_channels, Forwarded, place_of}
use Rattle.world_laws.proofs.Prelude.{forwarded_by, replies, SwitchState, Parameters, Event, OutboxEntry, sccp_in, switch_took}
use Rattle.world_laws.proofs.Prelude.{after_switch_takes, Actors, Mobile, Link, broken_link, link_of, modulus_in, is_up, is_station_up}
use Rattle.world_laws.proofs.Prelude.{outbox_of, with_outbox, spot_at, switch_takes_leads, after_taken, changed_link, AllByRecursion-so}
use Rattle.world_laws.proofs.Prelude.{sccp_reading, to_switch, Alive, LineUp, flow, coming_up, leading_from_air, leading_from_outbox}
use Rattle.world_laws.proofs.Prelude.{going_down, commanded_target, waiting_of, is_of_peer, taken_in, taken_of, line_up, Leads, LinedUp}
use Rattle.world_laws.proofs.Prelude.{AreLinedUp, carried_for, DeliversFirst, SwitchKeepsLineUps}
use Rattle.conn_rules.specs.Streams.{target_in}
use Rattle.controller_model.specs.Views.{forwarded}
use Rattle.world_laws.specs.LineUp.RelayStep.RelayStep.{switch_takes}
use Rattle.world_laws.proofs.LineUp.Lines.{flow-append}
use Rattle.world_laws.proofs.LineUp.Relaying.{alive_relay}
use Rattle.msc_end.specs.Switch.{after}
use Rattle.world_model.specs.Life.{event_after}
use Rattle.world_laws.proofs.Apart.{target_in_is_so}
use Rattle.world_laws.proofs.Framing.{AreUp, all_right, lined-same}
use Rattle.world_laws.proofs.Quiet.{all_of, ArePlaced}
use Rattle.world_laws.proofs.Seeing.{SameTenures, sits_same, leads_same, none_same}
use Rattle.world_laws.proofs.Spots.{set-same, set-apart}
use Rattle.world_laws.proofs.Events.{world}

-- ---- the line moves

-- some of what waits is taken
alive_taken : {m : ℕ} (l : LineUp) (xs out taken : List (List ℕ)) →
    Alive m (record l { out = xs ++ out; taken = taken }) →
    Alive m (record l { out = out; taken = taken ++ xs })
alive_taken {m} l [] out taken alive = subst (λ (ys : List (List ℕ)). Alive m (record l { out = out; taken = ys })) (sym (append-nil taken)) alive
alive_taken {m} l (x ∷ xs) out taken alive =
    subst (λ (ys : List (List ℕ)). Alive m (record l { out = out; taken = ys })) (append_assoc taken (x ∷ []) xs)
    (alive_taken l xs out (taken ++ x ∷ []) (alive_relay (switch_takes (record l { taken = taken }) x (xs ++ out)) alive))

-- ---- what waits, entry by entry

pub forwarded-first : (out : Out) (outs : List Out) (number : ℕ) →
    forwarded (out ∷ outs) number ≡ forwarded (out ∷ []) number ++ forwarded outs number
unfolding forwarded
forwarded-first out outs number = by_link (to_switch number out) where
  by_link : (b : Bool) → flat_map (λ o. forwarded_by (sccp_reading o.frame.body)) (cond b (out ∷ filter (to_switch number) outs) (filter (to_switch number) outs))
      ≡ flat_map (λ o. forwarded_by (sccp_reading o.frame.body)) (cond b (out ∷ []) []) ++ flat_map (λ o. forwarded_by (sccp_reading o.frame.body)) (filter (to_switch number) outs)
  by_link true = ap (λ (fs : List Forwarded). fs ++ flat_map (λ o. forwarded_by (sccp_reading o.frame.body)) (filter (to_switch number) outs)) (sym (append-nil (forwarded_by (sccp_reading out.frame.body))))
  by_link false = refl

waiting_first : (w : Actors) (number : ℕ) (first : OutboxEntry) (others : List OutboxEntry) →
    is_up w SWITCH_LINK ≡ true →
    outbox_of w SWITCH_LINK ≡ first ∷ others →
    waiting_of w number ≡ carried_for number first.out ++ waiting_of (with_outbox SWITCH_LINK others w) number
waiting_first w number first others up pending =
    ap (λ (entries : List OutboxEntry). map (λ f. f.message) (forwarded (map (λ entry. entry.out) entries) number)) pending
    ∙ ap (λ (fs : List Forwarded). map (λ f. f.message) fs) (forwarded-first first.out (map (λ entry. entry.out) others) number)
    ∙ map-append (λ f. f.message) (forwarded (first.out ∷ []) number) (forwarded (map (λ entry. entry.out) others) number)
    ∙ ap (λ (link : Link). carried_for number first.out ++ map (λ f. f.message) (forwarded (map (λ entry. entry.out) link.outbox) number))
    (sym (changed_link w.links SWITCH_LINK (record (link_of w SWITCH_LINK) { outbox = others }) up))

-- ---- the connection

-- all but what waits and what the switch took is seen as before
keeps_taking : {m : ℕ} {w : Actors} {s : Connection} (p : Mobile) (next : SwitchState) (made : List Sccp) (first : OutboxEntry) (others : List OutboxEntry) → is_up w SWITCH_LINK ≡ true → outbox_of w SWITCH_LINK ≡ first ∷ others
    → taken_in (find (is_of_peer s.number) next.connections) ≡ taken_of w s.number ++ carried_for s.number first.out → LinedUp m w p s → LinedUp m (record (with_outbox SWITCH_LINK others w) { switch = next; switch_made = made }) p s
unfolding SameTenures
keeps_taking {m} {w} {s} p next made first others up pending takes kept = record {
  alive = subst (Alive m) (sym (lined-same (coming_up v) (coming_up w) (is_station_up v) (is_station_up w) (going_down v (place_of s.serving)) (going_down w (place_of s.serving)) (waiting_of v s.number) (waiting_of v s.number) (taken_of v s.number) (taken_of v s.number) p p s
      (all_of (λ c. coming_up w (place_of c) ≡ coming_up w (place_of c)) (used_channels s) (λ c. refl)) up_same (down_same s.serving placed_rest.0) refl refl refl refl refl)) alive_now;
  sits = sits_same same_tenures kept.sits;
  led = subst (AllByRecursion (λ a. Leads v a (commanded_target s.state))) (sym (down_same s.serving placed_rest.0)) (AllByRecursion-so (λ a. Leads w a (commanded_target s.state)) (λ a. Leads v a (commanded_target s.state)) (λ a. leads_same same_tenures) (going_down w (place_of s.serving)) kept.led);
  none_on_target = none_same w v (commanded_target s.state) (λ t is. down_same t.channel (subst ArePlaced (target_in_is_so s.state t is) placed_rest.1).0) kept.none_on_target;
  apart = kept.apart;
  placed = kept.placed;
} where
  v : Actors
  v = record (with_outbox SWITCH_LINK others w) { switch = next; switch_made = made }

  x : List (List ℕ)
  x = carried_for s.number first.out

  now : LineUp
  now = line_up w p s

  same_tenures : SameTenures w v
  same_tenures at = refl

  flows_out : flow (waiting_of w s.number) ≡ flow x ++ flow (waiting_of v s.number)
  flows_out = ap flow (waiting_first w s.number first others up pending) ∙ flow-append x (waiting_of v s.number)

  down_same : (c : Channel) → c.station ≢ SWITCH_LINK → going_down v (place_of c) ≡ going_down w (place_of c)
  down_same c c_is = ap (λ (link : Link). flat_map leading_from_air (spot_at w (place_of c)).air ++ flat_map (leading_from_outbox c.number) link.outbox) (set-apart w.links broken_link SWITCH_LINK c.station (record (link_of w SWITCH_LINK) { outbox = others }) c_is)

  placed_rest : ArePlaced (s.serving ∷ target_in s.state)
  placed_rest = all_right (λ c. c.station ≢ SWITCH_LINK) (undone s.draining) (s.serving ∷ target_in s.state) kept.placed

  up_same : AreUp (is_station_up v) (is_station_up w)
  up_same n = ap (λ (b : Bool). not (n == SWITCH_LINK) && b) (set-same (λ (link : Link). link.up) w.links broken_link SWITCH_LINK n (record (link_of w SWITCH_LINK) { outbox = others }) refl)

  alive_now : Alive m (record now { out = flow (waiting_of v s.number); taken = flow (taken_of v s.number) })
  alive_now = subst (λ (ys : List (List ℕ)). Alive m (record now { out = flow (waiting_of v s.number); taken = ys })) (sym (ap flow takes ∙ flow-append (taken_of w s.number) x))
      (alive_taken now (flow x) (flow (waiting_of v s.number)) (flow (taken_of w s.number)) (subst (λ (ys : List (List ℕ)). Alive m (record now { out = ys; taken = flow (taken_of w s.number) })) flows_out kept.alive))

-- ---- the event

taking_keeps : {m : ℕ} {w : Actors} {mobile : ℕ} {s : Connection} (first : OutboxEntry) (others : List OutboxEntry) (o : Option Sccp) → is_up w SWITCH_LINK ≡ true → outbox_of w SWITCH_LINK ≡ first ∷ others → taken_of (switch_took o w) s.number ≡ taken_of w s.number ++ carried_for s.number first.out → AreLinedUp m w mobile s
    → AreLinedUp m (switch_took o (with_outbox SWITCH_LINK others w)) mobile s
taking_keeps {w} first others None up pending takes lined = record { one = lined.one; found = lined.found; lined = keeps_taking lined.one w.switch w.switch_made first others up pending takes lined.lined }
taking_keeps {w} first others (Some message) up pending takes lined = record { one = lined.one; found = lined.found; lined = keeps_taking lined.one (after w.switch message) (w.switch_made ++ replies w.switch.connections message) first others up pending takes lined.lined }

pub switch_keeps_line_ups_new : (settings : Parameters) (events : List Event) → SwitchKeepsLineUps settings events
unfolding event_after
switch_keeps_line_ups_new settings events mobile s delivers lined =
    let w : Actors = world settings events in
    after_taken (λ v. AreLinedUp (modulus_in settings) v mobile s) (after_switch_takes w) w
    (switch_takes_leads (λ v. AreLinedUp (modulus_in settings) v mobile s) w (λ first others up pending. taking_keeps first others (sccp_in first.out.frame) up pending (subst (DeliversFirst w s.number) pending delivers) lined)) lined
