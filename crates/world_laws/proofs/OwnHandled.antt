-- SPDX-License-Identifier: MIT OR Apache-2.0
-- The controller handles an item for a connection: the connection remains lined up.
use Rattle.world_laws.proofs.Prelude.{◌≡◌, ℕ, ◌+◌, Bool, true, false, if◌then◌else◌, unwrap_or, List, [], ◌∷◌, ◌++◌, find, map, length}
use Rattle.world_laws.proofs.Prelude.{Option, Some, None, refl, sym, ap, ◌∙◌, subst, arith, AllByRecursion, Channel, Place, Out, Input}
use Rattle.world_laws.proofs.Prelude.{Target, Connection, RoleStep, TargetRole, after_step, roles_of, step_by, target_channels, RemainsOpen}
use Rattle.world_laws.proofs.Prelude.{role_leaves, Row, AreApart, relayed, used_channels, target_in_role, place_of, Zero, to_be_taken}
use Rattle.world_laws.proofs.Prelude.{RelayItem, Parameters, Event, handled, tenure_in, Actors, Mobile, has_number, is_station_up}
use Rattle.world_laws.proofs.Prelude.{modulus_in, tenure_at, turn_leads, AllByRecursion-so, KeepsChannels, take, forwarded, Alive}
use Rattle.world_laws.proofs.Prelude.{controls_of, flow, coming_up, going_down, commanded_target, seat_from, waiting_of, taken_of, line_up}
use Rattle.world_laws.proofs.Prelude.{remembered, HandlesFor, AreInOrder, IsPutAsRead, HandleKeepsLineUps, TimeAgesLineUps, DoesRow}
use Rattle.world_laws.proofs.Prelude.{LinedUp, Leads, AreLinedUp}
use Rattle.conn_rules.proofs.Channels.{keeps_channels}
use Rattle.world_laws.specs.LineUp.Places.{Item, Seat}
use Rattle.world_laws.proofs.LineUp.Lines.{flow-append}
use Rattle.world_model.specs.Life.{event_after}
use Rattle.world_laws.specs.OwnItem.{CommandsAfter, TakesInput, seat_after}
use Rattle.world_laws.specs.OwnRow.{over}
use Rattle.world_laws.proofs.Apart.{is_on_target}
use Rattle.world_laws.proofs.Framing.{lined-same}
use Rattle.world_laws.proofs.Others.{turn_mobiles, time_leaves_others_new}
use Rattle.world_laws.proofs.OwnDoes.{kept_targets}
use Rattle.world_laws.proofs.OwnHandle.{handled_by, handling, first_coming, downs_of}
use Rattle.world_laws.proofs.OwnInput.{does_row, input_row_of}
use Rattle.world_laws.proofs.OwnRowLaw.{row_keeps_line_up_new, of_row}
use Rattle.world_laws.proofs.OwnSeats.{OwnRest, own_rest}
use Rattle.world_laws.proofs.OwnSteps.{phase_counted}
use Rattle.world_laws.proofs.OwnTurn.{turn_stations, turn_waiting}
use Rattle.world_laws.proofs.Quiet.{all_of}
use Rattle.world_laws.proofs.RolesAfter.{commanded_of, channels_after}
use Rattle.world_laws.proofs.Seeing.{SameTenures, sits_same, leads_same}
use Rattle.world_laws.proofs.Events.{world}

-- ---- the row, in the world

-- whatever commands are on their way
takes_of : {w : Actors} {item : RelayItem} (items : List RelayItem) {s : Connection} {input : Input} {offer : Option Channel} {r : Row} {text : List ℕ} → w.inbox ≡ item ∷ items → HandlesFor w item s input offer r text → AreInOrder w s input → IsPutAsRead s r → AreApart (used_channels s)
    → TakesInput s input offer r text (coming_up w) (coming_up (handled_by w item items)) 0 0
takes_of {w} {item} items {s} {input} pending handles order read apart = record {
  fits = handles.fits;
  remains_open = handles.remains_open;
  awaits = handles.awaits;
  valid = order.valid;
  carried = handles.carried;
  apart = apart;
  finds = record {
    read = handles.read;
    first = λ at. first_coming w item items at pending ∙ ap (λ (xs : List Item). xs ++ coming_up (handled_by w item items) at) (handles.brings at);
    old_end = order.old_end;
    others_continue = order.others_continue;
    silent = order.silent;
    whole = order.whole;
  };
  whole = read.whole;
  commands_after = none (step_by input (roles_of s));
} where
  none : (x : RoleStep) → CommandsAfter x 0 0
  none (role_leaves place) = omega arith
  none _ = omega arith

-- no COMMAND is on its way on a target
of_commanded : (P : Channel → Type 0) (o : Option TargetRole) (t : Target) →
    commanded_of o ≡ Some t →
    AllByRecursion P (target_channels o) →
    P t.channel
unfolding commanded_of
of_commanded P None t is all = absurd cc
of_commanded P (Some role) t is all = by role.is_commanded is where
  by : (b : Bool) → (if b then Some role.target else None) ≡ Some t → P t.channel
  by true is = subst (λ (o : Option Target). P (unwrap_or o t).channel) is all.0
  by false is = absurd cc

quiet_of : {w : Actors} {s : Connection} {input : Input} {offer : Option Channel} {r : Row} →
    AreInOrder w s input →
    RemainsOpen (step_by input (roles_of s)) (roles_of s) s.down input offer r →
    (t : Target) →
    commanded_target r.next.state ≡ Some t →
    going_down w (place_of t.channel) ≡ []
quiet_of {w} {s} {input} {offer} {r} order remains t to =
    of_commanded (λ c. going_down w (place_of c) ≡ []) (after_step (step_by input (roles_of s)) (roles_of s)).target t (sym (channels_after (step_by input (roles_of s)) (roles_of s) s.down input offer r remains).target ∙ to)
    (kept_targets (λ c. going_down w (place_of c) ≡ []) (step_by input (roles_of s)) (roles_of s) (subst (AllByRecursion (λ c. going_down w (place_of c) ≡ [])) (sym (target_in_role s.state)) order.uncommanded))

-- the same row, whatever commands are on their way
with_commands : {s : Connection} {input : Input} {offer : Option Channel} {r : Row} {before after : Place → List Item} {up : ℕ → Bool} {seat seat2 : Seat} {w v : Actors} {mobile_seat : _} → DoesRow s input offer r before after up 0 0 seat seat2 → OwnRest w v mobile_seat s r.next before after up seat seat2
    → DoesRow s input offer r before after up (length (going_down w (place_of s.serving)) + remembered mobile_seat) (length (going_down v (place_of r.next.serving)) + remembered mobile_seat) seat seat2
with_commands does rest = record {
  fits = does.fits;
  remains_open = does.remains_open;
  awaits = does.awaits;
  valid = does.valid;
  carried = does.carried;
  apart = does.apart;
  future = does.future;
  ends = does.ends;
  was = does.was;
  now = does.now;
  whole = does.whole;
  step = rest.own;
}

-- ---- the connection

own_lined : {m : ℕ} {w : Actors} {p : Mobile} {item : RelayItem} (items : List RelayItem) {s : Connection} {input : Input} {offer : Option Channel} {r : Row} {text : List ℕ} → w.inbox ≡ item ∷ items → HandlesFor w item s input offer r text → AreInOrder w s input → IsPutAsRead s r → LinedUp m w p s
    → LinedUp m (handled_by w item items) p r.next
unfolding SameTenures
own_lined {m} {w} {p} {item} items {s} {input} {offer} {r} {text} pending handles order read lined = record {
  alive = alive_now;
  sits = sits_same same_tenures rest.sits;
  led = AllByRecursion-so (λ a. Leads w a (commanded_target r.next.state)) (λ a. Leads v a (commanded_target r.next.state)) (λ a. leads_same same_tenures) (going_down v (place_of r.next.serving)) rest.led;
  none_on_target = rest.none;
  apart = read.apart;
  placed = read.placed;
} where
  v : Actors
  v = handled_by w item items

  takes : TakesInput s input offer r text (coming_up w) (coming_up v) 0 0
  takes = takes_of items pending handles order read lined.apart

  remains : RemainsOpen (step_by input (roles_of s)) (roles_of s) s.down input offer r
  remains = input_row_of (step_by input (roles_of s)) refl takes

  same_tenures : SameTenures w v
  same_tenures at = turn_leads (λ (x : Actors). tenure_at x at ≡ tenure_at w at) (tenure_in w item.source item.what) (take item w.controller) (record w { inbox = items }) (λ links. refl)

  seat2 : Seat
  seat2 = seat_after (step_by input (roles_of s)) (seat_from s.serving p.seat)

  does : DoesRow s input offer r (coming_up w) (coming_up v) (is_station_up w) 0 0 (seat_from s.serving p.seat) seat2
  does = does_row s input offer r text (coming_up w) (coming_up v) (is_station_up w) 0 0 (seat_from s.serving p.seat) takes

  rest : OwnRest w v p.seat s r.next (coming_up w) (coming_up v) (is_station_up w) (seat_from s.serving p.seat) seat2
  rest = own_rest (record {
    seen = refl;
    phase = phase_counted (coming_up w) (is_station_up w) (seat_from s.serving p.seat) s (controls_of (to_be_taken p.end.zero)) lined.alive.phase;
    sits = lined.sits;
    led = lined.led;
    none = lined.none_on_target;
    apart = λ t is. (is_on_target s t (place_of t.channel) lined.apart is refl).serving;
  }) (downs_of items handles read lined.apart remains) (λ t idle to. quiet_of order remains t to) does.step

  number : r.next.number ≡ s.number
  number = (of_row (KeepsChannels s offer) handles.fits (keeps_channels s input offer)).number

  taken : taken_of v r.next.number ≡ taken_of w s.number
  taken = ap (taken_of v) number ∙ turn_leads (λ (x : Actors). taken_of x s.number ≡ taken_of w s.number) (tenure_in w item.source item.what) (take item w.controller) (record w { inbox = items }) (λ links. refl)

  waits : flow (waiting_of v r.next.number) ≡ flow (waiting_of w s.number) ++ flow (relayed Zero r.outs)
  waits = ap (λ (n : ℕ). flow (waiting_of v n)) number
      ∙ ap flow (turn_waiting (tenure_in w item.source item.what) (take item w.controller).outs (handling w items (take item w.controller)) s.number order.switch_up)
      ∙ flow-append (waiting_of w s.number) (map (λ f. f.message) (forwarded (take item w.controller).outs s.number))
      ∙ ap (λ (outs : List Out). flow (waiting_of w s.number) ++ flow (map (λ f. f.message) (forwarded outs s.number))) handles.outs
      ∙ ap (λ (xs : List (List ℕ)). flow (waiting_of w s.number) ++ xs) read.forwards

  moved : Alive m (over (coming_up v) (is_station_up w) r.next p.end.sent p.end.zero seat2 (length (going_down v (place_of r.next.serving)) + remembered p.seat) (flow (waiting_of w s.number) ++ flow (relayed Zero r.outs)) (flow (taken_of w s.number)))
  moved = row_keeps_line_up_new m s input offer r (coming_up w) (coming_up v) (is_station_up w) (length (going_down w (place_of s.serving)) + remembered p.seat) (length (going_down v (place_of r.next.serving)) + remembered p.seat) (seat_from s.serving p.seat) seat2 p.end.sent p.end.zero (flow (waiting_of w s.number)) (flow (taken_of w s.number))
      (with_commands does rest) lined.alive

  seen : Alive m (over (coming_up v) (is_station_up w) r.next p.end.sent p.end.zero (seat_from r.next.serving p.seat) (length (going_down v (place_of r.next.serving)) + remembered p.seat) (flow (waiting_of v r.next.number)) (flow (taken_of v r.next.number)))
  seen = subst (λ (xs : List (List ℕ)). Alive m (over (coming_up v) (is_station_up w) r.next p.end.sent p.end.zero (seat_from r.next.serving p.seat) (length (going_down v (place_of r.next.serving)) + remembered p.seat) (flow (waiting_of v r.next.number)) (flow xs))) (sym taken)
      (subst (λ (xs : List (List ℕ)). Alive m (over (coming_up v) (is_station_up w) r.next p.end.sent p.end.zero (seat_from r.next.serving p.seat) (length (going_down v (place_of r.next.serving)) + remembered p.seat) xs (flow (taken_of w s.number)))) (sym waits)
      (subst (λ (x : Seat). Alive m (over (coming_up v) (is_station_up w) r.next p.end.sent p.end.zero x (length (going_down v (place_of r.next.serving)) + remembered p.seat) (flow (waiting_of w s.number) ++ flow (relayed Zero r.outs)) (flow (taken_of w s.number)))) rest.seen moved))

  alive_now : Alive m (line_up v p r.next)
  alive_now = subst (Alive m) (sym (lined-same (coming_up v) (coming_up v) (is_station_up v) (is_station_up w) (going_down v (place_of r.next.serving)) (going_down v (place_of r.next.serving)) (waiting_of v r.next.number) (waiting_of v r.next.number) (taken_of v r.next.number) (taken_of v r.next.number) p p r.next
      (all_of (λ c. coming_up v (place_of c) ≡ coming_up v (place_of c)) (used_channels r.next) (λ c. refl)) (turn_stations (tenure_in w item.source item.what) (take item w.controller).outs (handling w items (take item w.controller))) refl refl refl refl refl refl)) seen

-- ---- the event

pub handle_keeps_line_ups_new : (settings : Parameters) (events : List Event) → HandleKeepsLineUps settings events
unfolding event_after
handle_keeps_line_ups_new settings events mobile s item items input offer r text pending handles order read lined =
    let w : Actors = world settings events in
    let now : AreLinedUp (modulus_in settings) (handled_by w item items) mobile r.next = record {
      one = lined.one;
      found = ap (λ (ms : List Mobile). find (has_number mobile) ms) (turn_mobiles (tenure_in w item.source item.what) (take item w.controller).outs (handling w items (take item w.controller))) ∙ lined.found;
      lined = own_lined items pending handles order read lined.lined;
    } in
    subst (λ (xs : List RelayItem). AreLinedUp (modulus_in settings) (unwrap_or (handled xs w) w) mobile r.next) (sym pending) now

-- ---- time passes

pub time_ages_line_ups_new : (settings : Parameters) (events : List Event) (ms : ℕ) → TimeAgesLineUps settings events ms
time_ages_line_ups_new settings events ms mobile s others lined =
    let now = time_leaves_others_new settings events ms mobile s others lined in
    record {
      one = now.one;
      found = now.found;
      lined = record { alive = now.lined.alive; sits = now.lined.sits; led = now.lined.led; none_on_target = now.lined.none_on_target; apart = now.lined.apart; placed = now.lined.placed };
    }
