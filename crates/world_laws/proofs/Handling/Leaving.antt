-- SPDX-License-Identifier: MIT OR Apache-2.0
-- What the controller puts, and what it makes of a connection, leaves the connection lined up where
-- nothing of it is relayed to the switch.
use Rattle.world_laws.proofs.Prelude.{◌≡◌, ℕ, ◌≤◌, ◌==◌, ◌&&◌, Bool, true, false, cond, List, [], ◌∷◌, ◌++◌, find, fold, map, Option, None}
use Rattle.world_laws.proofs.Prelude.{refl, sym, ap, ◌∙◌, subst, inl, inr, AllByRecursion, flat_map, cases_Bool, cond-false, cond-true}
use Rattle.world_laws.proofs.Prelude.{append-nil, Channel, Message, Out, SWITCH_LINK, outs_of, Target, Connection, AreApart, relayed}
use Rattle.world_laws.proofs.Prelude.{used_channels, is_for, outs_for, IsSent, forwarded_seen, Forwarded, Turn, place_of, forwarded_by}
use Rattle.world_laws.proofs.Prelude.{Sapi, Tenure, joined_by, with_turn, Actors, Mobile, has_number, is_up, tenure_at, turn_leads}
use Rattle.world_laws.proofs.Prelude.{sccp_reading, AreUsual, Alive, flow, coming_up, HasEnded, going_down, commanded_target, is_confirmed}
use Rattle.world_laws.proofs.Prelude.{is_opening, line_up, taken_of, waiting_of, Leads, LinedUp, NoneOn, Sits}
use Rattle.controller_model.specs.Views.{forwarded}
use Rattle.world_laws.specs.LineUp.Order.{Ended}
use Rattle.world_laws.proofs.Others.{turn_mobiles}
use Rattle.world_laws.proofs.OwnTurn.{turn_down, turn_stations, turn_waiting}
use Rattle.world_laws.proofs.Quiet.{ArePlaced, all_of}
use Rattle.world_laws.proofs.Seeing.{lined_up_same, SameTenures, SeesSame}
use Rattle.world_laws.proofs.SwitchTakes.{forwarded-first}
use Rattle.world_laws.proofs.References.Over.{none_forwarded as none-on}

-- ---- a connection of the same line

-- what a line-up is made of is the same
pub record SameLine (s next : Connection) : Type 0 where
  pub number : next.number ≡ s.number
  pub serving : next.serving ≡ s.serving
  pub draining : next.draining ≡ s.draining
  pub tenures : next.up.tenures ≡ s.up.tenures
  pub target : commanded_target next.state ≡ commanded_target s.state
  pub confirmed : is_confirmed next.state ≡ is_confirmed s.state
  pub opening : is_opening next.state ≡ is_opening s.state

pub line_itself : (s : Connection) → SameLine s s
line_itself s = record { number = refl; serving = refl; draining = refl; tenures = refl; target = refl; confirmed = refl; opening = refl }

line_is : (w : Actors) (p : Mobile) (s next : Connection) → SameLine s next → line_up w p next ≡ line_up w p s
line_is w p s next same = rw (same.number, same.serving, same.draining, same.tenures, same.target, same.confirmed, same.opening) refl

pub line_same : {m : ℕ} {w : Actors} {p : Mobile} {s : Connection} (next : Connection) →
    SameLine s next →
    AreApart (used_channels next) →
    ArePlaced (used_channels next) →
    LinedUp m w p s →
    LinedUp m w p next
line_same {m} {w} {p} {s} next same apart placed lined = record {
  alive = subst (Alive m) (sym (line_is w p s next same)) lined.alive;
  sits = subst (λ (c : Channel). Sits w c (commanded_target next.state) p.seat) (sym same.serving) (subst (λ (o : Option Target). Sits w s.serving o p.seat) (sym same.target) lined.sits);
  led = subst (λ (c : Channel). AllByRecursion (λ a. Leads w a (commanded_target next.state)) (going_down w (place_of c))) (sym same.serving)
      (subst (λ (o : Option Target). AllByRecursion (λ a. Leads w a o) (going_down w (place_of s.serving))) (sym same.target) lined.led);
  none_on_target = subst (NoneOn w) (sym same.target) lined.none_on_target;
  apart = apart;
  placed = placed;
}

-- ---- what is relayed to the switch

pub none_forwarded : (number : ℕ) (outs : List Out) (ms : List Message) →
    1 ≤ number →
    outs_for number outs ≡ outs_of number ms →
    AreUsual ms →
    AllByRecursion IsSent outs →
    ((sapi : Sapi) → relayed sapi ms ≡ []) →
    forwarded outs number ≡ []
none_forwarded number outs ms from_one are usual sent none = none-on (forwarded outs number) (λ sapi. forwarded_seen number outs ms from_one are usual sent sapi ∙ none sapi)

-- where nothing is put for it
off_number : (number : ℕ) (out : Out) → (out.conn == number) ≡ false → forwarded (out ∷ []) number ≡ []
unfolding forwarded
off_number number out other = by (out.conn == number) (out.to == SWITCH_LINK) other where
  by : (a b : Bool) → a ≡ false → flat_map (λ (o : Out). forwarded_by (sccp_reading o.frame.body)) (cond (a && b) (out ∷ []) []) ≡ []
  by true b other = absurd cc
  by false b other = refl

pub silent_forwards : (number : ℕ) (outs : List Out) → outs_for number outs ≡ [] → forwarded outs number ≡ []
unfolding forwarded
silent_forwards number [] silent = refl
silent_forwards number (out ∷ outs) silent = elim (cases_Bool (is_for number out)) [
  | inl hit ↦ absurd (never (sym (cond-true (is_for number out) (out ∷ outs_for number outs) (outs_for number outs) hit) ∙ silent))
  | inr miss ↦ forwarded-first out outs number ∙ ap (λ (fs : List Forwarded). fs ++ forwarded outs number) (off_number number out miss)
      ∙ silent_forwards number outs (sym (cond-false (is_for number out) (out ∷ outs_for number outs) (outs_for number outs) miss) ∙ silent)
] where
  never : out ∷ outs_for number outs ≡ [] → ⊥
  never is = absurd cc

-- ---- the turn

-- the controller's step is done, and what it puts isn't out yet
abbrev pub turned : Actors → Turn → Actors
turned w t = record w { controller = t.next }

-- no more commands are on their way down
abbrev pub NoneDown : Actors → Option Tenure → Turn → Type 0
NoneDown w target t = (c : Channel) → going_down (with_turn target t w) (place_of c) ≡ going_down w (place_of c)

-- where there is no tenure
pub none_down : (w : Actors) {target : Option Tenure} (t : Turn) → target ≡ None → NoneDown w target t
none_down w {target} t none = λ c. ap (λ (o : Option Tenure). going_down (with_turn o t w) (place_of c)) none ∙ turn_down t.outs (turned w t) c

-- where nothing is put
pub nothing_down : (w : Actors) (target : Option Tenure) (t : Turn) → t.outs ≡ [] → NoneDown w target t
nothing_down w target t none = λ c. ap (λ (outs : List Out). going_down (fold (joined_by target) (turned w t) outs) (place_of c)) none

sees_turned : {w : Actors} {s : Connection} (target : Option Tenure) (t : Turn) →
    is_up w SWITCH_LINK ≡ true →
    forwarded t.outs s.number ≡ [] →
    NoneDown w target t →
    SeesSame w (with_turn target t w) s
unfolding SameTenures
sees_turned {w} {s} target t up none down = record {
  arriving = all_of (λ c. coming_up (with_turn target t w) (place_of c) ≡ coming_up w (place_of c)) (used_channels s) (λ c. turn_leads (λ (x : Actors). coming_up x (place_of c) ≡ coming_up w (place_of c)) target t w (λ links. refl));
  up = turn_stations target t.outs (turned w t);
  serving = down s.serving;
  target = λ c is. down c.channel;
  tenures = λ at. turn_leads (λ (x : Actors). tenure_at x at ≡ tenure_at w at) target t w (λ links. refl);
  waiting = turn_waiting target t.outs (turned w t) s.number up ∙ ap (λ (fs : List Forwarded). waiting_of w s.number ++ map (λ f. f.message) fs) none ∙ append-nil (waiting_of w s.number);
  taken = turn_leads (λ (x : Actors). taken_of x s.number ≡ taken_of w s.number) target t w (λ links. refl);
}

pub turn_lined : {m : ℕ} {w : Actors} {p : Mobile} {s : Connection} (target : Option Tenure) (t : Turn) →
    is_up w SWITCH_LINK ≡ true →
    forwarded t.outs s.number ≡ [] →
    NoneDown w target t →
    LinedUp m w p s →
    LinedUp m (with_turn target t w) p s
turn_lined {p} target t up none down lined = lined_up_same p p (sees_turned target t up none down) refl refl refl lined

-- ---- it ended

pub turn_ended : {m : ℕ} {w : Actors} {mobile number : ℕ} (target : Option Tenure) (t : Turn) →
    is_up w SWITCH_LINK ≡ true →
    forwarded t.outs number ≡ [] →
    HasEnded m w mobile number →
    HasEnded m (with_turn target t w) mobile number
turn_ended {m} {w} {mobile} {number} target t up none ended = record {
  one = ended.one;
  found = ap (λ (ms : List Mobile). find (has_number mobile) ms) (turn_mobiles target t.outs (turned w t)) ∙ ended.found;
  in_order = subst (λ (xs : List (List ℕ)). Ended m ended.one.end.sent (flow xs) (flow (taken_of v number))) (sym waits) (subst (λ (xs : List (List ℕ)). Ended m ended.one.end.sent (flow (waiting_of w number)) (flow xs)) (sym takes) ended.in_order);
} where
  v : Actors
  v = with_turn target t w

  waits : waiting_of v number ≡ waiting_of w number
  waits = turn_waiting target t.outs (turned w t) number up ∙ ap (λ (fs : List Forwarded). waiting_of w number ++ map (λ f. f.message) fs) none ∙ append-nil (waiting_of w number)

  takes : taken_of v number ≡ taken_of w number
  takes = turn_leads (λ (x : Actors). taken_of x number ≡ taken_of w number) target t w (λ links. refl)
