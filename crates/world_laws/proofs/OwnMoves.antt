-- SPDX-License-Identifier: MIT OR Apache-2.0
-- What the mobile of a connection hears, and where it moves, keeps the connection lined up.
use Rattle.world_laws.proofs.Prelude.{◌≡◌, ◌≢◌, ℕ, ◌+◌, ◌≤◌, ◌==◌, ◌&&◌, not, Bool, true, false, if◌then◌else◌, List, [], ◌∷◌, ◌++◌, length}
use Rattle.world_laws.proofs.Prelude.{unwrap_or, Option, Some, None, Ok, refl, sym, ap, ◌∙◌, subst, append_assoc, length-append, arith}
use Rattle.world_laws.proofs.Prelude.{AllByRecursion, flat_map, Change, Assignment, Handover, Channel, Place, SWITCH_LINK, Target}
use Rattle.world_laws.proofs.Prelude.{Connection, is_at, is_dtap, undone, used_channels, place_of, RrMessage, AssignmentCommand}
use Rattle.world_laws.proofs.Prelude.{HandoverCommand, ChannelRelease, RrFault, Zero, after_establish, establish_indication, is_control}
use Rattle.world_laws.proofs.Prelude.{after_resume, after_leave, after_arrival, AirMessage, Command, MobileSeat, On, Moving, Gone}
use Rattle.world_laws.proofs.Prelude.{ChannelTenure, remembering, controlled, hearing, seated, Actors, Mobile, Spot, put_back, base_of}
use Rattle.world_laws.proofs.Prelude.{with_base, is_station_up, outbox_of, spot_at, with_spot, tenure_at, is_reached, reached_up, up_right}
use Rattle.world_laws.proofs.Prelude.{same_Some, AllByRecursion-so, Result, rr_reading, Alive, left_the_cell, LineUp, flow, on_serving}
use Rattle.world_laws.proofs.Prelude.{on_target, moving, gone, coming_up, leading, leading_from_air, leading_from_outbox, going_down}
use Rattle.world_laws.proofs.Prelude.{seat_from, remembered, is_intact, old_tenures, serving_hold, serving_tenure, commanded_target}
use Rattle.world_laws.proofs.Prelude.{target_tenure, waiting_of, taken_of, assembled, lined, line_up, change_in, Remembers, Sits, Leads}
use Rattle.world_laws.proofs.Prelude.{NoneOn, LinedUp, leads, at_its_target, between, is_gone_now}
use Rattle.conn_rules.specs.Streams.{target_in}
use Rattle.world_laws.specs.LineUp.Alive.{ChangePhase}
use Rattle.world_laws.specs.LineUp.Alive.ChangePhase.{opens, rests, waits, arrives, returns}
use Rattle.world_laws.specs.LineUp.Places.{Item, LineTenure, Seat}
use Rattle.world_laws.specs.LineUp.MobileStep.MobileStep.{follows_command, arrives as arrives_step, returns as returns_step}
use Rattle.world_laws.specs.LineUp.MobileStep.MobileStep.{dismissed_from_serving, dismissed_from_target}
use Rattle.world_laws.proofs.LineUp.Following.{follows_line}
use Rattle.world_laws.proofs.LineUp.Lines.{parts_tail, last_part}
use Rattle.world_laws.proofs.LineUp.Moving.{alive_mobile}
use Rattle.world_laws.proofs.LineUp.Phases.{phase_fewer}
use Rattle.world_model.specs.Mobiles.{left}
use Rattle.world_laws.specs.Seated.Remembers.{nothing, by_command}
use Rattle.world_laws.specs.Seated.Sits.{unchanged}
use Rattle.world_laws.proofs.Apart.{is_at_station, target_in_is_so, OnServing, OnTarget, is_on_serving, is_on_target, SitsOn, sits_on_tenure, SitsBetween}
use Rattle.world_laws.proofs.Apart.{sits_between}
use Rattle.world_laws.proofs.Apart.SitsOn.{serves, arrived}
use Rattle.world_laws.proofs.Framing.{AreSame, AreUp, all_right, lined-same}
use Rattle.world_laws.proofs.OwnMobile.{lined_up_end}
use Rattle.world_laws.proofs.Quiet.{all_of, ArePlaced, coming_with_spot, sees_itself, sees_mobiles, sees_told, sees_spot}
use Rattle.world_laws.proofs.Spots.{spot-elsewhere, spot-there, tenure_with_spot}
use Rattle.world_laws.proofs.Seeing.{SameTenures, sits_same, leads_same, none_same, SeesSame, lined_up_same}

-- ---- fewer commands on their way

pub alive_fewer : {m : ℕ} (l : LineUp) (n : ℕ) → n ≤ l.commands → Alive m l → Alive m (record l { commands = n })
alive_fewer l n fewer alive = record {
  follows = alive.follows;
  first = alive.first;
  phase = phase_fewer fewer (omega arith) (omega arith) (omega arith) (omega arith) alive.phase;
  condition = alive.condition;
  bare = alive.bare;
}

-- one is on its way, or remembered, where the mobile is on the serving channel
only_one : {opening changing : Bool} {commands serving texts target link : ℕ} →
    ChangePhase opening changing commands on_serving serving texts target link →
    1 ≤ commands →
    commands ≡ 1
only_one (opens here none) some = absurd (omega arith)
only_one (rests here none) some = absurd (omega arith)
only_one (waits here few none) some = omega arith
only_one (arrives here none few) some = elim here [ ]
only_one (returns here none few) some = absurd (omega arith)

-- ---- a seat that is known

line_up_at : (w : Actors) (p : Mobile) (s : Connection) → Seat → LineUp
line_up_at w p s sits = assembled p.end.sent p.end.zero sits s.state (length (going_down w (place_of s.serving)) + remembered p.seat) (old_tenures (coming_up w) (is_station_up w) s.draining s.up.tenures)
    (serving_tenure (coming_up w) (is_station_up w) s.serving (serving_hold s.draining s.up.tenures)) (target_tenure (coming_up w) (is_station_up w) sits (commanded_target s.state)) (flow (waiting_of w s.number)) (flow (taken_of w s.number))

at_seat : {m : ℕ} (w : Actors) (p : Mobile) (s : Connection) {seat : Seat} →
    seat_from s.serving p.seat ≡ seat →
    Alive m (line_up w p s) →
    Alive m (line_up_at w p s seat)
unfolding line_up_at
at_seat {m} w p s is alive = subst (λ (sits : Seat). Alive m (assembled p.end.sent p.end.zero sits s.state (length (going_down w (place_of s.serving)) + remembered p.seat) (old_tenures (coming_up w) (is_station_up w) s.draining s.up.tenures)
    (serving_tenure (coming_up w) (is_station_up w) s.serving (serving_hold s.draining s.up.tenures)) (target_tenure (coming_up w) (is_station_up w) sits (commanded_target s.state)) (flow (waiting_of w s.number)) (flow (taken_of w s.number)))) is alive

alive_from_seat : {m : ℕ} (w : Actors) (p : Mobile) (s : Connection) {seat : Seat} →
    seat_from s.serving p.seat ≡ seat →
    Alive m (line_up_at w p s seat) →
    Alive m (line_up w p s)
unfolding line_up_at
alive_from_seat {m} w p s is alive = subst (λ (sits : Seat). Alive m (assembled p.end.sent p.end.zero sits s.state (length (going_down w (place_of s.serving)) + remembered p.seat) (old_tenures (coming_up w) (is_station_up w) s.draining s.up.tenures)
    (serving_tenure (coming_up w) (is_station_up w) s.serving (serving_hold s.draining s.up.tenures)) (target_tenure (coming_up w) (is_station_up w) sits (commanded_target s.state)) (flow (waiting_of w s.number)) (flow (taken_of w s.number)))) (sym is) alive

-- the target, seen from another seat
target_moving : (f : Place → List Item) (up : ℕ → Bool) (o : Option Target) → target_tenure f up moving o ≡ target_tenure f up on_serving o
target_moving f up None = refl
target_moving f up (Some t) = refl

target_gone : (f : Place → List Item) (up : ℕ → Bool) (seat : Seat) (o : Option Target) →
    (b : Bool) × (target_tenure f up gone o ≡ record (target_tenure f up seat o) { is_lost = b })
target_gone f up seat None = (false, refl)
target_gone f up seat (Some t) = (not (up t.channel.station) && true, refl)

-- ---- a message for the air is taken on the serving channel

-- what a connection is seen by, but for the commands on their way
record SeesBut (w v : Actors) (s : Connection) : Type 0 where
  arriving : AreSame (coming_up v) (coming_up w) (used_channels s)
  up : AreUp (is_station_up v) (is_station_up w)
  target : (t : Target) → commanded_target s.state ≡ Some t → going_down v (place_of t.channel) ≡ going_down w (place_of t.channel)
  tenures : SameTenures w v
  waiting : waiting_of v s.number ≡ waiting_of w s.number
  taken : taken_of v s.number ≡ taken_of w s.number

lined_but : {m : ℕ} {w v : Actors} {s : Connection} {p : Mobile} (q : Mobile) → SeesBut w v s → Alive m (lined (coming_up w) (is_station_up w) (going_down v (place_of s.serving)) (waiting_of w s.number) (taken_of w s.number) q s) → Sits w s.serving (commanded_target s.state) q.seat
    → AllByRecursion (λ a. Leads w a (commanded_target s.state)) (going_down v (place_of s.serving)) → LinedUp m w p s → LinedUp m v q s
lined_but {m} {w} {v} {s} {p} q sees alive sits led kept = record {
  alive = subst (Alive m)
      (sym (lined-same (coming_up v) (coming_up w) (is_station_up v) (is_station_up w) (going_down v (place_of s.serving)) (going_down v (place_of s.serving)) (waiting_of v s.number) (waiting_of w s.number) (taken_of v s.number) (taken_of w s.number) q q s
      sees.arriving sees.up refl sees.waiting sees.taken refl refl refl)) alive;
  sits = sits_same sees.tenures sits;
  led = AllByRecursion-so (λ a. Leads w a (commanded_target s.state)) (λ a. Leads v a (commanded_target s.state)) (λ a. leads_same sees.tenures) (going_down v (place_of s.serving)) led;
  none_on_target = none_same w v (commanded_target s.state) sees.target kept.none_on_target;
  apart = kept.apart;
  placed = kept.placed;
}

-- the world where the first message for the air was taken
popped : Actors → ChannelTenure → List AirMessage → Actors
popped w tenure others = with_spot tenure.at (record (spot_at w tenure.at) { air = others }) w

but_popped : {w : Actors} {s : Connection} (tenure : ChannelTenure) (others : List AirMessage) →
    tenure.at.station ≢ SWITCH_LINK →
    ArePlaced (used_channels s) →
    OnServing tenure.at s →
    SeesBut w (popped w tenure others) s
unfolding popped SameTenures
but_popped {w} {s} tenure others at_is placed on = record {
  arriving = all_of (λ c. coming_up (popped w tenure others) (place_of c) ≡ coming_up w (place_of c)) (used_channels s) (λ c. coming_with_spot w tenure.at _ (place_of c));
  up = λ n. refl;
  target = λ t is. ap (λ (x : Spot). flat_map leading_from_air x.air ++ flat_map (leading_from_outbox t.channel.number) (outbox_of w t.channel.station))
      (spot-elsewhere w tenure.at _ t.channel at_is (subst ArePlaced (target_in_is_so s.state t is) placed_rest.1).0 (subst (λ (cs : List Channel). AllByRecursion (λ c. is_at tenure.at c ≡ false) cs) (target_in_is_so s.state t is) on.target).0);
  tenures = λ other. tenure_with_spot w tenure.at _ other refl;
  waiting = refl;
  taken = refl;
} where
  placed_rest : ArePlaced (s.serving ∷ target_in s.state)
  placed_rest = all_right (λ c. c.station ≢ SWITCH_LINK) (undone s.draining) (s.serving ∷ target_in s.state) placed

-- what is on its way behind that message
behind : Actors → ChannelTenure → List AirMessage → List AirMessage
behind w tenure others = flat_map leading_from_air others ++ flat_map (leading_from_outbox tenure.at.number) (outbox_of w tenure.at.station)

popped-down : (w : Actors) (s : Connection) (tenure : ChannelTenure) (first : AirMessage) (others : List AirMessage) →
    tenure.at ≡ place_of s.serving →
    (spot_at w tenure.at).air ≡ first ∷ others →
    going_down (popped w tenure others) (place_of s.serving) ≡ behind w tenure others
unfolding popped behind
popped-down w s tenure first others is air =
    ap (going_down (popped w tenure others)) (sym is)
    ∙ ap (λ (x : Spot). flat_map leading_from_air x.air ++ flat_map (leading_from_outbox tenure.at.number) (outbox_of w tenure.at.station)) (spot-there (λ (x : Spot). x.air) w tenure.at _ (λ none. some (sym air ∙ none))) where
      some : first ∷ others ≡ [] → ⊥
      some h = absurd cc

before_down : (w : Actors) (s : Connection) (tenure : ChannelTenure) (first : AirMessage) (others : List AirMessage) →
    tenure.at ≡ place_of s.serving →
    (spot_at w tenure.at).air ≡ first ∷ others →
    going_down w (place_of s.serving) ≡ leading first.message first.target ++ behind w tenure others
unfolding behind
before_down w s tenure first others is air =
    ap (going_down w) (sym is) ∙ ap (λ (entries : List AirMessage). flat_map leading_from_air entries ++ flat_map (leading_from_outbox tenure.at.number) (outbox_of w tenure.at.station)) air
    ∙ append_assoc (leading first.message first.target) (flat_map leading_from_air others) (flat_map (leading_from_outbox tenure.at.number) (outbox_of w tenure.at.station))

-- the mobile, perhaps with a command
serving_popped : {m : ℕ} {w : Actors} {p : Mobile} {s : Connection} (tenure : ChannelTenure) (command now : Option Command) (first : AirMessage) (others : List AirMessage) (q : Mobile) → tenure.at.station ≢ SWITCH_LINK → p.seat ≡ On tenure command → tenure.at ≡ place_of s.serving → (spot_at w tenure.at).air ≡ first ∷ others
    → q.end ≡ p.end → q.seat ≡ On tenure now → Sits w s.serving (commanded_target s.state) (On tenure now) → remembered (On tenure now) ≤ length (leading first.message first.target) + remembered (On tenure command) → LinedUp m w p s → LinedUp m (popped w tenure others) q s
unfolding line_up_at
serving_popped {m} {w} {p} {s} tenure command now first others q at_is seat is air end seat_now sits fewer kept =
    lined_but q (but_popped tenure others at_is kept.placed on)
    (from_seat (alive_fewer (line_up_at w p s on_serving) (length (going_down v (place_of s.serving)) + remembered q.seat) count (at_seat w p s was kept.alive)))
    (subst (Sits w s.serving (commanded_target s.state)) (sym seat_now) sits)
    (subst (AllByRecursion (λ a. Leads w a (commanded_target s.state))) (sym (popped-down w s tenure first others is air))
    (all_right (λ a. Leads w a (commanded_target s.state)) (leading first.message first.target) (behind w tenure others) (subst (AllByRecursion (λ a. Leads w a (commanded_target s.state))) (before_down w s tenure first others is air) kept.led)))
    kept where
      v : Actors
      v = popped w tenure others

      on : OnServing tenure.at s
      on = is_on_serving s tenure.at kept.apart is

      was : seat_from s.serving p.seat ≡ on_serving
      was = ap (seat_from s.serving) seat ∙ ap (λ (b : Bool). if b then on_serving else on_target) on.at_serving

      is_now : seat_from s.serving q.seat ≡ on_serving
      is_now = ap (seat_from s.serving) seat_now ∙ ap (λ (b : Bool). if b then on_serving else on_target) on.at_serving

      count : length (going_down v (place_of s.serving)) + remembered q.seat ≤ length (going_down w (place_of s.serving)) + remembered p.seat
      count =
          let after = ap length (popped-down w s tenure first others is air) in
          let before = ap length (before_down w s tenure first others is air) ∙ length-append (leading first.message first.target) (behind w tenure others) in
          let one = ap remembered seat_now in
          let two = ap remembered seat in
          omega arith

      from_seat : Alive m (assembled p.end.sent p.end.zero on_serving s.state (length (going_down v (place_of s.serving)) + remembered q.seat) (old_tenures (coming_up w) (is_station_up w) s.draining s.up.tenures)
          (serving_tenure (coming_up w) (is_station_up w) s.serving (serving_hold s.draining s.up.tenures)) (target_tenure (coming_up w) (is_station_up w) on_serving (commanded_target s.state)) (flow (waiting_of w s.number)) (flow (taken_of w s.number)))
          → Alive m (lined (coming_up w) (is_station_up w) (going_down v (place_of s.serving)) (waiting_of w s.number) (taken_of w s.number) q s)
      from_seat alive =
          subst (λ (e : _). Alive m (assembled e.sent e.zero (seat_from s.serving q.seat) s.state (length (going_down v (place_of s.serving)) + remembered q.seat) (old_tenures (coming_up w) (is_station_up w) s.draining s.up.tenures)
          (serving_tenure (coming_up w) (is_station_up w) s.serving (serving_hold s.draining s.up.tenures)) (target_tenure (coming_up w) (is_station_up w) (seat_from s.serving q.seat) (commanded_target s.state)) (flow (waiting_of w s.number)) (flow (taken_of w s.number)))) (sym end)
          (subst (λ (sits : Seat). Alive m (assembled p.end.sent p.end.zero sits s.state (length (going_down v (place_of s.serving)) + remembered q.seat) (old_tenures (coming_up w) (is_station_up w) s.draining s.up.tenures)
          (serving_tenure (coming_up w) (is_station_up w) s.serving (serving_hold s.draining s.up.tenures)) (target_tenure (coming_up w) (is_station_up w) sits (commanded_target s.state)) (flow (waiting_of w s.number)) (flow (taken_of w s.number)))) (sym is_now) alive)

-- ---- it leaves the cell

gone_alive : {m : ℕ} (l : LineUp) (b : Bool) →
    Alive m (record l { seat = gone; is_intact = false }) →
    Alive m (record l { seat = gone; is_intact = false; target = record l.target { is_lost = b } })
gone_alive l b alive = record {
  follows = follows_line (ap (λ (parts : List (List ℕ)). flow l.taken ++ flow l.out ++ parts)
      (parts_tail l.old (l.serving ∷ l.target ∷ []) (l.serving ∷ record l.target { is_lost = b } ∷ [])
      (parts_tail (l.serving ∷ []) (l.target ∷ []) (record l.target { is_lost = b } ∷ []) (last_part l.target ∙ sym (last_part (record l.target { is_lost = b })))))) alive.follows;
  first = alive.first;
  phase = alive.phase;
  condition = left_the_cell;
  bare = alive.bare;
}

pub lined_up_gone : {m : ℕ} {w : Actors} {p : Mobile} {s : Connection} (tenure : ChannelTenure) (command : Option Command) →
    p.seat ≡ On tenure command →
    LinedUp m w p s →
    LinedUp m w (record p { seat = Gone }) s
unfolding line_up_at
lined_up_gone {m} {w} {p} {s} tenure command seat kept = record {
  alive = by_sits (sits_on_tenure tenure command (subst (Sits w s.serving (commanded_target s.state)) seat kept.sits));
  sits = is_gone_now;
  led = kept.led;
  none_on_target = kept.none_on_target;
  apart = kept.apart;
  placed = kept.placed;
} where
  fewer : (sits : Seat) → length (going_down w (place_of s.serving)) + 0 ≤ (line_up_at w p s sits).commands
  fewer sits = omega arith

  leaving : (sits : Seat) →
      Alive m (record (line_up_at w p s sits) { seat = gone; is_intact = false }) →
      Alive m (line_up w (record p { seat = Gone }) s)
  leaving sits alive =
      let to = target_gone (coming_up w) (is_station_up w) sits (commanded_target s.state) in
      subst (λ (t : LineTenure). Alive m (assembled p.end.sent p.end.zero gone s.state (length (going_down w (place_of s.serving)) + 0) (old_tenures (coming_up w) (is_station_up w) s.draining s.up.tenures)
      (serving_tenure (coming_up w) (is_station_up w) s.serving (serving_hold s.draining s.up.tenures)) t (flow (waiting_of w s.number)) (flow (taken_of w s.number)))) (sym to.1)
      (alive_fewer (record (line_up_at w p s sits) { seat = gone; is_intact = false; target = record (line_up_at w p s sits).target { is_lost = to.0 } }) (length (going_down w (place_of s.serving)) + 0) (fewer sits) (gone_alive (line_up_at w p s sits) to.0 alive))

  by_sits : SitsOn w s.serving (commanded_target s.state) tenure command → Alive m (line_up w (record p { seat = Gone }) s)
  by_sits (serves is remembers) =
      let on : OnServing tenure.at s = is_on_serving s tenure.at kept.apart (ap (λ (t : ChannelTenure). t.at) is) in
      leaving on_serving (alive_mobile (dismissed_from_serving (line_up_at w p s on_serving)) (at_seat w p s (ap (seat_from s.serving) seat ∙ ap (λ (b : Bool). if b then on_serving else on_target) on.at_serving) kept.alive))
  by_sits (arrived t to is none) =
      let on : OnTarget tenure.at s t = is_on_target s t tenure.at kept.apart to (ap (λ (t : ChannelTenure). t.at) is) in
      leaving on_target (alive_mobile (dismissed_from_target (line_up_at w p s on_target)) (at_seat w p s (ap (seat_from s.serving) seat ∙ ap (λ (b : Bool). if b then on_serving else on_target) on.serving) kept.alive))

-- ---- it hears a message, or the message is lost

-- on the target nothing leads anywhere
target_popped : {m : ℕ} {w : Actors} {p : Mobile} {s : Connection} (t : Target) (tenure : ChannelTenure) (first : AirMessage) (others : List AirMessage) → commanded_target s.state ≡ Some t → tenure.at ≡ place_of t.channel → (spot_at w tenure.at).air ≡ first ∷ others → LinedUp m w p s
    → (leading first.message first.target ≡ []) × LinedUp m (popped w tenure others) p s
unfolding popped
target_popped {m} {w} {p} {s} t tenure first others to is air kept = (nothing_leads, lined_up_same p p (sees_spot tenure.at (record (spot_at w tenure.at) { air = others }) none_more refl (sees_itself w s)) refl refl refl kept) where
  on_target_none : (o : Option Target) → o ≡ Some t → NoneOn w o → going_down w (place_of t.channel) ≡ []
  on_target_none None is none = absurd cc
  on_target_none (Some other) is none = ap (λ (o : Option Target). going_down w (place_of (unwrap_or o other).channel)) (sym is) ∙ none

  empty : (leading first.message first.target ++ flat_map leading_from_air others) ++ flat_map (leading_from_outbox tenure.at.number) (outbox_of w tenure.at.station) ≡ []
  empty = ap (λ (entries : List AirMessage). flat_map leading_from_air entries ++ flat_map (leading_from_outbox tenure.at.number) (outbox_of w tenure.at.station)) (sym air) ∙ ap (going_down w) is ∙ on_target_none (commanded_target s.state) to kept.none_on_target

  front : {X : Type 0} (xs ys : List X) → xs ++ ys ≡ [] → (xs ≡ []) × (ys ≡ [])
  front [] ys none = (refl, none)
  front (x ∷ xs) ys none = absurd cc

  nothing_leads : leading first.message first.target ≡ []
  nothing_leads = (front (leading first.message first.target) (flat_map leading_from_air others) (front (leading first.message first.target ++ flat_map leading_from_air others) (flat_map (leading_from_outbox tenure.at.number) (outbox_of w tenure.at.station)) empty).0).0

  none_more : flat_map leading_from_air others ≡ flat_map leading_from_air (spot_at w tenure.at).air
  none_more = ap (λ (entries : List AirMessage). entries ++ flat_map leading_from_air others) (sym nothing_leads) ∙ ap (flat_map leading_from_air) (sym air)

pub own_lost : {m : ℕ} {w : Actors} {p : Mobile} {s : Connection} (tenure : ChannelTenure) (command : Option Command) (first : AirMessage) (others : List AirMessage) → is_reached w tenure ≡ true → p.seat ≡ On tenure command → (spot_at w tenure.at).air ≡ first ∷ others → LinedUp m w p s
    → LinedUp m (with_spot tenure.at (record (spot_at w tenure.at) { air = others }) w) p s
unfolding popped
own_lost {m} {w} {p} {s} tenure command first others reached seat air kept = by_sits (sits_on_tenure tenure command (subst (Sits w s.serving (commanded_target s.state)) seat kept.sits)) where
  by_sits : SitsOn w s.serving (commanded_target s.state) tenure command → LinedUp m (popped w tenure others) p s
  by_sits (serves is remembers) = serving_popped tenure command command first others p (up_right tenure.at.station w (reached_up w tenure reached).0).0 seat (ap (λ (t : ChannelTenure). t.at) is) air refl seat
      (subst (Sits w s.serving (commanded_target s.state)) seat kept.sits) (omega arith) kept
  by_sits (arrived t to is none) = (target_popped t tenure first others to (ap (λ (t : ChannelTenure). t.at) is) air kept).1

-- what leads, leads to the target
led_to : {m : ℕ} {w : Actors} {p : Mobile} {s : Connection} (tenure : ChannelTenure) (first : AirMessage) (others : List AirMessage) (target : ChannelTenure) → tenure.at ≡ place_of s.serving → (spot_at w tenure.at).air ≡ first ∷ others → first.target ≡ Some target → LinedUp m w p s
    → Leads w (record { message = first.message; target = Some target }) (commanded_target s.state)
led_to {w} {s} tenure first others target is air leads_to kept =
    (subst (AllByRecursion (λ a. Leads w a (commanded_target s.state))) (before_down w s tenure first others is air ∙ ap (λ (o : Option ChannelTenure). leading first.message o ++ behind w tenure others) leads_to) kept.led).0

-- and the mobile remembers it
remembers_it : {w : Actors} {o : Option Target} {a : AirMessage} (goal : ChannelTenure) (change : Change) →
    change_in (rr_reading a.message) ≡ Some change →
    a.target ≡ Some goal →
    Leads w a o →
    Remembers w o (Some (record { change = change; target = goal }))
remembers_it goal change is to (leads {target} by at) = by_command (rw (same_Some _ _ (sym is ∙ by), same_Some _ _ (sym to ∙ at)) refl)

-- a command on the serving channel is remembered
heard_command : {m : ℕ} {w : Actors} {p : Mobile} {s : Connection} (tenure : ChannelTenure) (command : Option Command) (first : AirMessage) (others : List AirMessage) (change : Change) (target : ChannelTenure) (q : Mobile) → is_reached w tenure ≡ true → p.seat ≡ On tenure command → (spot_at w tenure.at).air ≡ first ∷ others
    → first.target ≡ Some target → change_in (rr_reading first.message) ≡ Some change → q.end ≡ p.end → q.seat ≡ On tenure (Some (record { change = change; target = target })) → LinedUp m w p s → LinedUp m (popped w tenure others) q s
heard_command {m} {w} {p} {s} tenure command first others change target q reached seat air leads_to is end seat_now kept = by_sits (sits_on_tenure tenure command (subst (Sits w s.serving (commanded_target s.state)) seat kept.sits)) where
  leads_on : length (leading first.message first.target) ≡ 1
  leads_on = ap (λ (o : Option ChannelTenure). length (leading first.message o)) leads_to

  by_sits : SitsOn w s.serving (commanded_target s.state) tenure command → LinedUp m (popped w tenure others) q s
  by_sits (serves there remembers) = serving_popped tenure command (Some (record { change = change; target = target })) first others q (up_right tenure.at.station w (reached_up w tenure reached).0).0 seat (ap (λ (t : ChannelTenure). t.at) there) air end seat_now
      (unchanged there (remembers_it target change is refl (led_to tenure first others target (ap (λ (t : ChannelTenure). t.at) there) air leads_to kept)))
      (let one = leads_on in omega arith) kept
  by_sits (arrived t to there none) = let one = leads_on in let none = ap length (target_popped t tenure first others to (ap (λ (t : ChannelTenure). t.at) there) air kept).0 in absurd (omega arith)

remembering-on : (p : Mobile) (change : Change) (target tenure : ChannelTenure) (command : Option Command) → p.seat ≡ On tenure command
    → (remembering p change target p.seat).end ≡ p.end × (remembering p change target p.seat).seat ≡ On tenure (Some (record { change = change; target = target }))
remembering-on p change target tenure command seat = subst (λ (x : MobileSeat). ((remembering p change target x).end ≡ p.end) × ((remembering p change target x).seat ≡ On tenure (Some (record { change = change; target = target })))) (sym seat) (refl, refl)

pub own_heard : {m : ℕ} {w : Actors} {p : Mobile} {s : Connection} (tenure : ChannelTenure) (command : Option Command) (first : AirMessage) (others : List AirMessage) → is_reached w tenure ≡ true → p.seat ≡ On tenure command → (spot_at w tenure.at).air ≡ first ∷ others → LinedUp m w p s
    → LinedUp m (with_spot tenure.at (record (spot_at w tenure.at) { air = others }) w) (hearing p first) s
unfolding popped
own_heard {m} {w} {p} {s} tenure command first others reached seat air kept = by_kind (is_dtap first.message) where
  as_before : LinedUp m (popped w tenure others) p s
  as_before = own_lost tenure command first others reached seat air kept

  by_message : (target : Option ChannelTenure) (r : Result RrMessage RrFault) →
      first.target ≡ target →
      rr_reading first.message ≡ r →
      LinedUp m (popped w tenure others) (controlled p target r) s
  by_message target (Ok (ChannelRelease cause)) to is = lined_up_gone tenure command seat as_before
  by_message (Some target) (Ok (AssignmentCommand channel)) to is =
      let now = remembering-on p Assignment target tenure command seat in
      heard_command tenure command first others Assignment target (remembering p Assignment target p.seat) reached seat air to (ap change_in is) now.0 now.1 kept
  by_message (Some target) (Ok (HandoverCommand cell channel reference)) to is =
      let now = remembering-on p Handover target tenure command seat in
      heard_command tenure command first others Handover target (remembering p Handover target p.seat) reached seat air to (ap change_in is) now.0 now.1 kept
  by_message _ _ to is = as_before

  by_kind : (b : Bool) →
      LinedUp m (popped w tenure others) (if b then record p { received = p.received ++ first.message ∷ [] } else controlled p first.target (rr_reading first.message)) s
  by_kind true = lined_up_end (record p { received = p.received ++ first.message ∷ [] }) refl as_before.alive as_before
  by_kind false = by_message first.target (rr_reading first.message) refl refl

-- ---- it follows the command

own_leaves : {m : ℕ} {w : Actors} {p : Mobile} {s : Connection} (tenure : ChannelTenure) (command : Command) → p.seat ≡ On tenure (Some command) → going_down w (place_of s.serving) ≡ [] → LinedUp m w p s
    → LinedUp m w (record p { end = after_leave p.end; seat = Moving tenure command; opens = false }) s
unfolding line_up_at
own_leaves {m} {w} {p} {s} tenure command seat none kept = by_sits (sits_on_tenure tenure (Some command) (subst (Sits w s.serving (commanded_target s.state)) seat kept.sits)) where
  q : Mobile
  q = record p { end = after_leave p.end; seat = Moving tenure command; opens = false }

  alive : OnServing tenure.at s → Alive m (line_up w q s)
  alive on =
      let one : (line_up_at w p s on_serving).commands ≡ 1 = (let a = ap length none in let b = ap remembered seat in omega arith) in
      let was : Alive m (line_up_at w p s on_serving) = at_seat w p s (ap (seat_from s.serving) seat ∙ ap (λ (b : Bool). if b then on_serving else on_target) on.at_serving) kept.alive in
      let left : Alive m (record (line_up_at w p s on_serving) { seat = moving; commands = 0 }) = alive_mobile (follows_command (line_up_at w p s on_serving)) (subst (λ (n : ℕ). Alive m (record (line_up_at w p s on_serving) { commands = n })) one was) in
      subst (λ (t : LineTenure). Alive m (assembled p.end.sent p.end.zero moving s.state (length (going_down w (place_of s.serving)) + 0) (old_tenures (coming_up w) (is_station_up w) s.draining s.up.tenures)
      (serving_tenure (coming_up w) (is_station_up w) s.serving (serving_hold s.draining s.up.tenures)) t (flow (waiting_of w s.number)) (flow (taken_of w s.number)))) (sym (target_moving (coming_up w) (is_station_up w) (commanded_target s.state)))
      (subst (λ (n : ℕ). Alive m (record (line_up_at w p s on_serving) { seat = moving; commands = n })) (sym (ap (λ (entries : List AirMessage). length entries + 0) none)) left)

  sitting : (o : Option Target) →
      tenure ≡ tenure_at w (place_of s.serving) →
      Remembers w o (Some command) →
      Sits w s.serving o (Moving tenure command)
  sitting o is (by_command by) = between is by

  by_sits : SitsOn w s.serving (commanded_target s.state) tenure (Some command) → LinedUp m w q s
  by_sits (serves is remembers) = record {
    alive = alive (is_on_serving s tenure.at kept.apart (ap (λ (t : ChannelTenure). t.at) is));
    sits = sitting (commanded_target s.state) is remembers;
    led = kept.led;
    none_on_target = kept.none_on_target;
    apart = kept.apart;
    placed = kept.placed;
  }
  by_sits (arrived t to is none) = absurd (never none) where
    never : Some command ≡ None → ⊥
    never h = absurd cc

pub own_move : {m : ℕ} {w : Actors} {p : Mobile} {s : Connection} (tenure : ChannelTenure) (command : Command) →
    p.seat ≡ On tenure (Some command) →
    LinedUp m w p s →
    LinedUp m (left w p tenure command) (record p { end = after_leave p.end; seat = Moving tenure command; opens = false }) s
unfolding line_up_at
own_move {m} {w} {p} {s} tenure command seat kept = by_sits (sits_on_tenure tenure (Some command) (subst (Sits w s.serving (commanded_target s.state)) seat kept.sits)) where
  q : Mobile
  q = record p { end = after_leave p.end; seat = Moving tenure command; opens = false }

  v : Actors
  v = with_spot tenure.at (record (spot_at w tenure.at) { air = []; sapi_three_up = false }) w

  none_down : OnServing tenure.at s → going_down w (place_of s.serving) ≡ []
  none_down on =
      let was : Alive m (line_up_at w p s on_serving) = at_seat w p s (ap (seat_from s.serving) seat ∙ ap (λ (b : Bool). if b then on_serving else on_target) on.at_serving) kept.alive in
      let a = ap remembered seat in
      let one = only_one was.phase (omega arith) in
      none_in (going_down w (place_of s.serving)) (omega arith) where
        none_in : (entries : List AirMessage) → length entries ≡ 0 → entries ≡ []
        none_in [] is = refl
        none_in (a ∷ entries) is = absurd (omega arith)

  front : {X : Type 0} (xs ys : List X) → xs ++ ys ≡ [] → xs ≡ []
  front [] ys none = refl
  front (x ∷ xs) ys none = absurd cc

  sees : tenure.at ≡ place_of s.serving → OnServing tenure.at s → SeesSame w v s
  sees is on = sees_spot tenure.at (record (spot_at w tenure.at) { air = []; sapi_three_up = false })
      (sym (front (flat_map leading_from_air (spot_at w tenure.at).air) (flat_map (leading_from_outbox tenure.at.number) (outbox_of w tenure.at.station)) (ap (going_down w) is ∙ none_down on))) refl (sees_itself w s)

  by_sits : SitsOn w s.serving (commanded_target s.state) tenure (Some command) → LinedUp m (left w p tenure command) q s
  by_sits (serves is remembers) =
      let there : tenure.at ≡ place_of s.serving = ap (λ (t : ChannelTenure). t.at) is in
      let on : OnServing tenure.at s = is_on_serving s tenure.at kept.apart there in
      let now : SeesSame w v s = sees there on in
      lined_up_same q q (sees_mobiles (put_back q v.mobiles) (sees_itself v s)) refl refl refl (own_leaves tenure command seat (now.serving ∙ none_down on) (lined_up_same p p now refl refl refl kept))
  by_sits (arrived t to is none) = absurd (never none) where
    never : Some command ≡ None → ⊥
    never h = absurd cc

-- ---- it arrives, or returns

target_arrived : (f : Place → List Item) (up : ℕ → Bool) (t : Target) (o : Option Target) →
    o ≡ Some t →
    up t.channel.station ≡ true →
    target_tenure f up on_target o ≡ target_tenure f up moving o
target_arrived f up t None is there = refl
target_arrived f up t (Some other) is there =
    ap (λ (b : Bool). record (target_tenure f up moving (Some other)) { is_lost = not b && true }) (ap (λ (o : Option Target). up (unwrap_or o other).channel.station) is ∙ there)
    ∙ ap (λ (b : Bool). record (target_tenure f up moving (Some other)) { is_lost = not b && false }) (sym (ap (λ (o : Option Target). up (unwrap_or o other).channel.station) is ∙ there))

seated_alive : {m : ℕ} (w : Actors) (p : Mobile) (s : Connection) (from : ChannelTenure) (command : Command) (tenure : ChannelTenure) (control : List ℕ) (seat : Seat) → p.seat ≡ Moving from command → seat_from s.serving (On tenure None) ≡ seat → target_tenure (coming_up w) (is_station_up w) seat (commanded_target s.state) ≡ target_tenure (coming_up w) (is_station_up w) moving (commanded_target s.state)
    → Alive m (record (line_up_at w p s moving) { seat = seat; link = after_resume p.end.zero control; is_intact = is_intact seat (old_tenures (coming_up w) (is_station_up w) s.draining s.up.tenures) (serving_tenure (coming_up w) (is_station_up w) s.serving (serving_hold s.draining s.up.tenures)) (target_tenure (coming_up w) (is_station_up w) moving (commanded_target s.state)) })
    → Alive m (line_up w (record p { end = after_arrival p.end control; seat = On tenure None }) s)
unfolding line_up_at
seated_alive {m} w p s from command tenure control seat moves is same alive =
    alive_from_seat w (record p { end = after_arrival p.end control; seat = On tenure None }) s is
    (subst (λ (t : LineTenure). Alive m (assembled p.end.sent (after_resume p.end.zero control) seat s.state (length (going_down w (place_of s.serving)) + 0) (old_tenures (coming_up w) (is_station_up w) s.draining s.up.tenures)
    (serving_tenure (coming_up w) (is_station_up w) s.serving (serving_hold s.draining s.up.tenures)) t (flow (waiting_of w s.number)) (flow (taken_of w s.number)))) (sym same)
    (subst (λ (n : ℕ). Alive m (assembled p.end.sent (after_resume p.end.zero control) seat s.state (length (going_down w (place_of s.serving)) + n) (old_tenures (coming_up w) (is_station_up w) s.draining s.up.tenures)
    (serving_tenure (coming_up w) (is_station_up w) s.serving (serving_hold s.draining s.up.tenures)) (target_tenure (coming_up w) (is_station_up w) moving (commanded_target s.state)) (flow (waiting_of w s.number)) (flow (taken_of w s.number)))) (ap remembered moves) alive))

arrives_here : {m : ℕ} {w : Actors} {p : Mobile} {s : Connection} (from : ChannelTenure) (command : Command) (control : List ℕ) → p.seat ≡ Moving from command → is_reached w command.target ≡ true → is_control control ≡ true → LinedUp m w p s
    → LinedUp m w (record p { end = after_arrival p.end control; seat = On command.target None }) s
unfolding line_up_at
arrives_here {m} {w} {p} {s} from command control moves reached is kept =
    let sits : SitsBetween w s.serving (commanded_target s.state) from command = sits_between from command (subst (Sits w s.serving (commanded_target s.state)) moves kept.sits) in
    let there : command.target ≡ tenure_at w (place_of sits.to.channel) = ap (λ (c : Command). c.target) sits.by in
    let on : OnTarget command.target.at s sits.to = is_on_target s sits.to command.target.at kept.apart sits.is_target (ap (λ (t : ChannelTenure). t.at) there) in
    let up : is_station_up w sits.to.channel.station ≡ true = ap (is_station_up w) (sym (is_at_station command.target.at sits.to.channel on.at_target)) ∙ (reached_up w command.target reached).0 in
    record {
      alive = seated_alive w p s from command command.target control on_target moves (ap (λ (b : Bool). if b then on_serving else on_target) on.serving) (target_arrived (coming_up w) (is_station_up w) sits.to (commanded_target s.state) sits.is_target up)
          (alive_mobile (arrives_step (line_up_at w p s moving) control is) (at_seat w p s (ap (seat_from s.serving) moves) kept.alive));
      sits = subst (λ (o : Option Target). Sits w s.serving o (On command.target None)) (sym sits.is_target) (at_its_target there);
      led = kept.led;
      none_on_target = kept.none_on_target;
      apart = kept.apart;
      placed = kept.placed;
    }

returns_here : {m : ℕ} {w : Actors} {p : Mobile} {s : Connection} (from : ChannelTenure) (command : Command) (control : List ℕ) →
    p.seat ≡ Moving from command →
    is_control control ≡ true →
    LinedUp m w p s →
    LinedUp m w (record p { end = after_arrival p.end control; seat = On from None }) s
unfolding line_up_at
returns_here {m} {w} {p} {s} from command control moves is kept =
    let sits : SitsBetween w s.serving (commanded_target s.state) from command = sits_between from command (subst (Sits w s.serving (commanded_target s.state)) moves kept.sits) in
    let on : OnServing from.at s = is_on_serving s from.at kept.apart (ap (λ (t : ChannelTenure). t.at) sits.from_serving) in
    record {
      alive = seated_alive w p s from command from control on_serving moves (ap (λ (b : Bool). if b then on_serving else on_target) on.at_serving) (sym (target_moving (coming_up w) (is_station_up w) (commanded_target s.state)))
          (alive_mobile (returns_step (line_up_at w p s moving) control is) (at_seat w p s (ap (seat_from s.serving) moves) kept.alive));
      sits = unchanged sits.from_serving nothing;
      led = kept.led;
      none_on_target = kept.none_on_target;
      apart = kept.apart;
      placed = kept.placed;
    }

-- its main link is established there
pub sees_established : {w : Actors} {s : Connection} (tenure : ChannelTenure) →
    ArePlaced (used_channels s) →
    is_reached w tenure ≡ true →
    SeesSame w (with_base tenure.at.station (after_establish (base_of w tenure.at.station) tenure.at.number Zero None) w) s
sees_established {w} {s} tenure placed reached =
    sees_told tenure.at.station (after_establish (base_of w tenure.at.station) tenure.at.number Zero None) (establish_indication tenure.at.number Zero None ∷ []) placed (reached_up w tenure reached).0 (λ k. refl) refl refl (λ channel. by_channel (tenure.at.number == channel)) (sees_itself w s) where
      none_if : Bool → List Item
      none_if b = if b then [] else []

      by_channel : (b : Bool) → none_if b ++ [] ≡ []
      by_channel true = refl
      by_channel false = refl

pub own_arrive : {m : ℕ} {w : Actors} {p : Mobile} {s : Connection} (from : ChannelTenure) (command : Command) (control : List ℕ) → p.seat ≡ Moving from command → is_reached w command.target ≡ true → is_control control ≡ true → LinedUp m w p s
    → LinedUp m (seated w p command.target control) (record p { end = after_arrival p.end control; seat = On command.target None }) s
own_arrive {m} {w} {p} {s} from command control moves reached is kept =
    let here : LinedUp m w (record p { end = after_arrival p.end control; seat = On command.target None }) s = arrives_here from command control moves reached is kept in
    lined_up_same _ _ (sees_mobiles _ (sees_established command.target kept.placed reached)) refl refl refl here

pub own_return : {m : ℕ} {w : Actors} {p : Mobile} {s : Connection} (from : ChannelTenure) (command : Command) (control : List ℕ) → p.seat ≡ Moving from command → is_reached w from ≡ true → is_control control ≡ true → LinedUp m w p s
    → LinedUp m (seated w p from control) (record p { end = after_arrival p.end control; seat = On from None }) s
own_return {m} {w} {p} {s} from command control moves reached is kept =
    let here : LinedUp m w (record p { end = after_arrival p.end control; seat = On from None }) s = returns_here from command control moves is kept in
    lined_up_same _ _ (sees_mobiles _ (sees_established from kept.placed reached)) refl refl refl here
