-- SPDX-License-Identifier: MIT OR Apache-2.0
-- The station of a channel takes a frame from the air: it joins the end of the line.
use Rattle.world_laws.proofs.Prelude.{◌≡◌, ◌≢◌, ℕ, ◌+◌, ◌==◌, ◌&&◌, not, Bool, true, false, if◌then◌else◌, cond, List, [], ◌∷◌, ◌++◌}
use Rattle.world_laws.proofs.Prelude.{length, Option, Some, None, refl, sym, ap, ◌∙◌, subst, inl, AllByRecursion, append-nil, Channel}
use Rattle.world_laws.proofs.Prelude.{Place, SWITCH_LINK, Target, Connection, is_at, undone, place_of, Zero, BaseState, after_establish}
use Rattle.world_laws.proofs.Prelude.{establish_indication, data_indication, MobilePlace, Stage, New, Connected, lent_message}
use Rattle.world_laws.proofs.Prelude.{after_lending, frame_answer, after_frame, after_frame_at, MobileState, Rsl, AirMessage, Command, On}
use Rattle.world_laws.proofs.Prelude.{ChannelTenure, frame_in, signalling_brought, framed, Actors, Mobile, is_station_up, base_of}
use Rattle.world_laws.proofs.Prelude.{with_base, is_reached, reached_up, none-some, AreAway, Alive, LineUp, with_items, flow, on_serving}
use Rattle.world_laws.proofs.Prelude.{on_target, after_up, frame_answer_at, brought_in_world, made_of, coming_up, going_down, seat_from}
use Rattle.world_laws.proofs.Prelude.{remembered, old_tenures, serving_hold, serving_tenure, commanded_target, target_tenure, waiting_of}
use Rattle.world_laws.proofs.Prelude.{taken_of, assembled, line_up, Sits, Leads, NoneOn, LinedUp}
use Rattle.conn_rules.specs.Streams.{target_in}
use Rattle.world_laws.specs.LineUp.Places.{Item, LineTenure, Seat}
use Rattle.world_laws.specs.LineUp.Places.Item.{brought}
use Rattle.world_laws.specs.LineUp.MobileStep.MobileStep.{taken_on_serving, taken_on_target}
use Rattle.world_laws.proofs.LineUp.Moving.{alive_mobile}
use Rattle.mobile_end.specs.declared.mobile_end.Place.TheVariants as places
use Rattle.world_laws.proofs.Apart.{all_both, is_at_station, target_in_is_so, OnServing, OnTarget, is_on_serving, is_on_target, SitsOn, sits_on_tenure}
use Rattle.world_laws.proofs.Apart.SitsOn.{serves, arrived}
use Rattle.world_laws.proofs.Framing.{AreSame, all_left, all_right, old_same, serving_same, target_same, assembled-same}
use Rattle.world_laws.proofs.Projecting.{active_there, coming_told}
use Rattle.world_laws.proofs.Quiet.{down_with_base}
use Rattle.world_laws.proofs.Spots.{tenure_with_base}
use Rattle.world_laws.proofs.Seeing.{SameTenures, sits_same, leads_same}

-- ---- the frame

pub record Lent (e : MobileState) (frame : List ℕ) : Type 0 where
  pub lent : lent_message e.zero ≡ Some frame
  pub after : after_frame e Zero ≡ record e { zero = after_lending e.zero }

pub frame_lent : (e : MobileState) (frame : List ℕ) → frame_in (frame_answer e Zero) ≡ Some frame → Lent e frame
frame_lent e frame is = by_state e.stage e.place refl refl where
  by_state : (stage : Stage) (place : MobilePlace) → e.stage ≡ stage → e.place ≡ place → Lent e frame
  by_state New place a b = absurd (none-some _ (sym (ap (λ (stage : Stage). frame_in (frame_answer_at stage e.place (lent_message e.zero))) a) ∙ is))
  by_state Connected places.Moving a b = absurd (none-some _ (sym (ap (λ (stage : Stage). frame_in (frame_answer_at stage e.place (lent_message e.zero))) a ∙ ap (λ (place : MobilePlace). frame_in (frame_answer_at Connected place (lent_message e.zero))) b) ∙ is))
  by_state Connected places.OnChannel a b = record {
    lent = sym (ap (λ (stage : Stage). frame_in (frame_answer_at stage e.place (lent_message e.zero))) a ∙ ap (λ (place : MobilePlace). frame_in (frame_answer_at Connected place (lent_message e.zero))) b) ∙ is;
    after = ap (λ (stage : Stage). after_frame_at stage e.place e Zero) a ∙ ap (λ (place : MobilePlace). after_frame_at Connected place e Zero) b;
  }

-- ---- what is brought up

comes : Place → List ℕ → Channel → List Item
comes at frame c = if is_at at c then brought frame ∷ [] else []

air_up_coming : (w : Actors) (p : Mobile) (tenure : ChannelTenure) (frame : List ℕ) (c : Channel) →
    is_reached w tenure ≡ true →
    c.station ≢ SWITCH_LINK →
    coming_up (brought_in_world w p tenure.at Zero frame) (place_of c) ≡ coming_up w (place_of c) ++ comes tenure.at frame c
unfolding comes
air_up_coming w p tenure frame c reached c_is = by_opening p.opens where
  base : BaseState
  base = base_of w tenure.at.station

  two : (a b : Bool) → (if a then (if b then brought frame ∷ [] else []) ++ [] else []) ≡ (if a && b then brought frame ∷ [] else [])
  two true true = refl
  two _ _ = refl

  telling : (base_after : BaseState) (message : Rsl) → base_after.messages ≡ base.messages ++ message ∷ [] → made_of c.number (message ∷ []) ≡ (if tenure.at.number == c.number then brought frame ∷ [] else []) ++ []
      → coming_up (with_base tenure.at.station base_after w) (place_of c) ≡ coming_up w (place_of c) ++ (if is_at tenure.at c then brought frame ∷ [] else [])
  telling base_after message appended is =
      coming_told w w tenure.at.station (place_of c) base_after (message ∷ []) c_is (reached_up w tenure reached).0 (λ k. refl) refl appended (inl (active_there w tenure.at (reached_up w tenure reached).1))
      ∙ ap (λ (items : List Item). coming_up w (place_of c) ++ (if tenure.at.station == c.station then items else [])) is
      ∙ ap (λ (items : List Item). coming_up w (place_of c) ++ items) (two (tenure.at.station == c.station) (tenure.at.number == c.number))

  by_opening : (b : Bool) →
      coming_up (with_base tenure.at.station (signalling_brought base tenure.at.number b frame) w) (place_of c) ≡ coming_up w (place_of c) ++ (if is_at tenure.at c then brought frame ∷ [] else [])
  by_opening true = telling (after_establish base tenure.at.number Zero (Some frame)) (establish_indication tenure.at.number Zero (Some frame)) refl refl
  by_opening false = telling (after_up base tenure.at.number Zero frame) (data_indication tenure.at.number Zero frame) refl refl

coming_other : (w : Actors) (p : Mobile) (tenure : ChannelTenure) (frame : List ℕ) (c : Channel) →
    is_reached w tenure ≡ true →
    c.station ≢ SWITCH_LINK →
    is_at tenure.at c ≡ false →
    coming_up (brought_in_world w p tenure.at Zero frame) (place_of c) ≡ coming_up w (place_of c)
unfolding comes
coming_other w p tenure frame c reached c_is other =
    air_up_coming w p tenure frame c reached c_is ∙ ap (λ (b : Bool). coming_up w (place_of c) ++ cond b (brought frame ∷ []) []) other ∙ append-nil (coming_up w (place_of c))

coming_there : (w : Actors) (p : Mobile) (tenure : ChannelTenure) (frame : List ℕ) (c : Channel) →
    is_reached w tenure ≡ true →
    c.station ≢ SWITCH_LINK →
    is_at tenure.at c ≡ true →
    coming_up (brought_in_world w p tenure.at Zero frame) (place_of c) ≡ coming_up w (place_of c) ++ brought frame ∷ []
unfolding comes
coming_there w p tenure frame c reached c_is there = air_up_coming w p tenure frame c reached c_is ∙ ap (λ (b : Bool). coming_up w (place_of c) ++ cond b (brought frame ∷ []) []) there

pub all_other : (w : Actors) (p : Mobile) (tenure : ChannelTenure) (frame : List ℕ) (cs : List Channel) →
    is_reached w tenure ≡ true →
    AllByRecursion (λ c. c.station ≢ SWITCH_LINK) cs →
    AreAway tenure.at cs →
    AreSame (coming_up (brought_in_world w p tenure.at Zero frame)) (coming_up w) cs
all_other w p tenure frame cs reached placed others =
    all_both (λ c. c.station ≢ SWITCH_LINK) (λ c. is_at tenure.at c ≡ false) (λ c. coming_up (brought_in_world w p tenure.at Zero frame) (place_of c) ≡ coming_up w (place_of c)) cs (λ c c_is other. coming_other w p tenure frame c reached c_is other) placed others

-- ---- the mobile of the connection

-- the same world, and the mobile after the frame
heard : Mobile → Mobile
heard p = record (framed p Zero) { opens = false }

lined_rest : {m : ℕ} {w : Actors} {p : Mobile} {s : Connection} (tenure : ChannelTenure) (frame : List ℕ) →
    LinedUp m w p s →
    Alive m (line_up (brought_in_world w p tenure.at Zero frame) (heard p) s) →
    LinedUp m (brought_in_world w p tenure.at Zero frame) (heard p) s
unfolding heard SameTenures
lined_rest {m} {w} {p} {s} tenure frame lined alive = record {
  alive = alive;
  sits = sits_same (λ at. tenure_with_base w tenure.at.station _ at) lined.sits;
  led = subst (AllByRecursion (λ a. Leads (brought_in_world w p tenure.at Zero frame) a (commanded_target s.state))) (sym (down_with_base w tenure.at.station _ (place_of s.serving)))
      (by_all (going_down w (place_of s.serving)) lined.led);
  none_on_target = by_target (commanded_target s.state) lined.none_on_target;
  apart = lined.apart;
  placed = lined.placed;
} where
  v : Actors
  v = brought_in_world w p tenure.at Zero frame

  by_all : (entries : List AirMessage) →
      AllByRecursion (λ a. Leads w a (commanded_target s.state)) entries →
      AllByRecursion (λ a. Leads v a (commanded_target s.state)) entries
  by_all [] all = tt
  by_all (a ∷ others) all = (leads_same (λ at. tenure_with_base w tenure.at.station _ at) all.0, by_all others all.1)

  by_target : (target : Option Target) → NoneOn w target → NoneOn v target
  by_target None none = none
  by_target (Some t) none = down_with_base w tenure.at.station _ (place_of t.channel) ∙ none

serving_alive : {m : ℕ} {w : Actors} {p : Mobile} {s : Connection} (tenure : ChannelTenure) (command : Option Command) (frame : List ℕ) →
    p.seat ≡ On tenure command →
    Lent p.end frame →
    is_reached w tenure ≡ true →
    OnServing tenure.at s →
    LinedUp m w p s →
    Alive m (line_up (brought_in_world w p tenure.at Zero frame) (heard p) s)
unfolding heard
serving_alive {m} {w} {p} {s} tenure command frame seat lent reached on lined = subst (Alive m) (sym now) (alive_mobile (taken_on_serving before frame lent.lent whole) (subst (Alive m) was lined.alive)) where
  v : Actors
  v = brought_in_world w p tenure.at Zero frame

  old : List LineTenure
  old = old_tenures (coming_up w) (is_station_up w) s.draining s.up.tenures

  serving : LineTenure
  serving = serving_tenure (coming_up w) (is_station_up w) s.serving (serving_hold s.draining s.up.tenures)

  target : Seat → LineTenure
  target sits = target_tenure (coming_up w) (is_station_up w) sits (commanded_target s.state)

  commands : ℕ
  commands = length (going_down w (place_of s.serving)) + remembered p.seat

  before : LineUp
  before = assembled p.end.sent p.end.zero on_serving s.state commands old serving (target on_serving) (flow (waiting_of w s.number)) (flow (taken_of w s.number))

  sits_on : seat_from s.serving p.seat ≡ on_serving
  sits_on = ap (seat_from s.serving) seat ∙ ap (λ (b : Bool). if b then on_serving else on_target) on.at_serving

  was : line_up w p s ≡ before
  was = ap (λ (sits : Seat). assembled p.end.sent p.end.zero sits s.state commands old serving (target sits) (flow (waiting_of w s.number)) (flow (taken_of w s.number))) sits_on

  at_channel : tenure.at.station ≡ s.serving.station
  at_channel = is_at_station tenure.at s.serving on.at_serving

  whole : serving.is_lost ≡ false
  whole = ap (λ (n : ℕ). not (is_station_up w n)) (sym at_channel) ∙ ap not (reached_up w tenure reached).0

  placed_rest : AllByRecursion (λ c. c.station ≢ SWITCH_LINK) (s.serving ∷ target_in s.state)
  placed_rest = all_right (λ c. c.station ≢ SWITCH_LINK) (undone s.draining) (s.serving ∷ target_in s.state) lined.placed

  now : line_up v (heard p) s ≡ assembled p.end.sent (after_lending p.end.zero) on_serving s.state commands old (with_items serving (serving.items ++ brought frame ∷ [])) (target on_serving) (flow (waiting_of w s.number)) (flow (taken_of w s.number))
  now = assembled-same s.state (ap (λ (e : MobileState). e.sent) lent.after) (ap (λ (e : MobileState). e.zero) lent.after) sits_on
      (ap (λ (entries : List AirMessage). length entries + remembered p.seat) (down_with_base w tenure.at.station _ (place_of s.serving)))
      (old_same (coming_up v) (coming_up w) (is_station_up w) (is_station_up w) s.draining s.up.tenures (λ n. refl) (all_other w p tenure frame (undone s.draining) reached (all_left (λ c. c.station ≢ SWITCH_LINK) (undone s.draining) (s.serving ∷ target_in s.state) lined.placed) on.old))
      (ap (λ (items : List Item). with_items serving items) (coming_there w p tenure frame s.serving reached placed_rest.0 on.at_serving))
      (target_same (coming_up v) (coming_up w) (is_station_up w) (is_station_up w) (seat_from s.serving p.seat) s.state (λ n. refl) (all_other w p tenure frame (target_in s.state) reached placed_rest.1 on.target) ∙ ap target sits_on)
      refl refl

target_alive : {m : ℕ} {w : Actors} {p : Mobile} {s : Connection} (t : Target) (tenure : ChannelTenure) (command : Option Command) (frame : List ℕ) →
    p.seat ≡ On tenure command →
    commanded_target s.state ≡ Some t →
    Lent p.end frame →
    is_reached w tenure ≡ true →
    OnTarget tenure.at s t →
    LinedUp m w p s →
    Alive m (line_up (brought_in_world w p tenure.at Zero frame) (heard p) s)
unfolding heard
target_alive {m} {w} {p} {s} t tenure command frame seat to lent reached on lined = subst (Alive m) (sym now) (alive_mobile (taken_on_target before frame lent.lent whole) (subst (Alive m) was lined.alive)) where
  v : Actors
  v = brought_in_world w p tenure.at Zero frame

  old : List LineTenure
  old = old_tenures (coming_up w) (is_station_up w) s.draining s.up.tenures

  serving : LineTenure
  serving = serving_tenure (coming_up w) (is_station_up w) s.serving (serving_hold s.draining s.up.tenures)

  target : LineTenure
  target = target_tenure (coming_up w) (is_station_up w) on_target (Some t)

  commands : ℕ
  commands = length (going_down w (place_of s.serving)) + remembered p.seat

  before : LineUp
  before = assembled p.end.sent p.end.zero on_target s.state commands old serving target (flow (waiting_of w s.number)) (flow (taken_of w s.number))

  sits_on : seat_from s.serving p.seat ≡ on_target
  sits_on = ap (seat_from s.serving) seat ∙ ap (λ (b : Bool). if b then on_serving else on_target) on.serving

  was : line_up w p s ≡ before
  was =
      ap (λ (sits : Seat). assembled p.end.sent p.end.zero sits s.state commands old serving (target_tenure (coming_up w) (is_station_up w) sits (commanded_target s.state)) (flow (waiting_of w s.number)) (flow (taken_of w s.number))) sits_on
      ∙ ap (λ (o : Option Target). assembled p.end.sent p.end.zero on_target s.state commands old serving (target_tenure (coming_up w) (is_station_up w) on_target o) (flow (waiting_of w s.number)) (flow (taken_of w s.number))) to

  whole : target.is_lost ≡ false
  whole = ap (λ (n : ℕ). not (is_station_up w n) && true) (sym (is_at_station tenure.at t.channel on.at_target)) ∙ ap (λ (b : Bool). not b && true) (reached_up w tenure reached).0

  placed_rest : AllByRecursion (λ c. c.station ≢ SWITCH_LINK) (s.serving ∷ t.channel ∷ [])
  placed_rest = subst (λ (cs : List Channel). AllByRecursion (λ c. c.station ≢ SWITCH_LINK) (s.serving ∷ cs)) (target_in_is_so s.state t to) (all_right (λ c. c.station ≢ SWITCH_LINK) (undone s.draining) (s.serving ∷ target_in s.state) lined.placed)

  now : line_up v (heard p) s ≡ assembled p.end.sent (after_lending p.end.zero) on_target s.state commands old serving (with_items target (target.items ++ brought frame ∷ [])) (flow (waiting_of w s.number)) (flow (taken_of w s.number))
  now = assembled-same s.state (ap (λ (e : MobileState). e.sent) lent.after) (ap (λ (e : MobileState). e.zero) lent.after) sits_on
      (ap (λ (entries : List AirMessage). length entries + remembered p.seat) (down_with_base w tenure.at.station _ (place_of s.serving)))
      (old_same (coming_up v) (coming_up w) (is_station_up w) (is_station_up w) s.draining s.up.tenures (λ n. refl) (all_other w p tenure frame (undone s.draining) reached (all_left (λ c. c.station ≢ SWITCH_LINK) (undone s.draining) (s.serving ∷ target_in s.state) lined.placed) on.old))
      (serving_same (coming_up v) (coming_up w) (is_station_up w) (is_station_up w) s.serving (serving_hold s.draining s.up.tenures) (λ n. refl) (coming_other w p tenure frame s.serving reached placed_rest.0 on.serving))
      (ap (λ (sits : Seat). target_tenure (coming_up v) (is_station_up w) sits (commanded_target s.state)) sits_on ∙ ap (target_tenure (coming_up v) (is_station_up w) on_target) to
      ∙ ap (λ (items : List Item). with_items target items) (coming_there w p tenure frame t.channel reached placed_rest.1.0 on.at_target))
      refl refl

pub own_air_up : {m : ℕ} {w : Actors} {p : Mobile} {s : Connection} (tenure : ChannelTenure) (command : Option Command) (frame : List ℕ) → p.seat ≡ On tenure command → frame_in (frame_answer p.end Zero) ≡ Some frame → is_reached w tenure ≡ true → LinedUp m w p s
    → LinedUp m (brought_in_world w p tenure.at Zero frame) (record (framed p Zero) { opens = false }) s
unfolding heard
own_air_up {m} {w} {p} {s} tenure command frame seat lent reached lined = lined_rest tenure frame lined (by_sits (sits_on_tenure tenure command (subst (Sits w s.serving (commanded_target s.state)) seat lined.sits))) where
  by_sits : SitsOn w s.serving (commanded_target s.state) tenure command →
      Alive m (line_up (brought_in_world w p tenure.at Zero frame) (heard p) s)
  by_sits (serves is remembers) = serving_alive tenure command frame seat (frame_lent p.end frame lent) reached (is_on_serving s tenure.at lined.apart (ap (λ (t : ChannelTenure). t.at) is)) lined
  by_sits (arrived t to is none) = target_alive t tenure command frame seat to (frame_lent p.end frame lent) reached (is_on_target s t tenure.at lined.apart to (ap (λ (t : ChannelTenure). t.at) is)) lined
