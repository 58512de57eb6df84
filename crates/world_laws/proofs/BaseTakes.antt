-- SPDX-License-Identifier: MIT OR Apache-2.0
-- A station takes the first entry of its outbox: the connections remain lined up.
use Rattle.world_laws.proofs.Prelude.{◌≡◌, ℕ, ◌+◌, Bool, true, false, if◌then◌else◌, List, [], ◌∷◌, ◌++◌, length, Option, Some, None, refl}
use Rattle.world_laws.proofs.Prelude.{sym, ap, ◌∙◌, subst, arith, AllByRecursion, Channel, Place, Drain, Changing, State, Live}
use Rattle.world_laws.proofs.Prelude.{Target, Connection, undone, used_channels, place_of, Held, AirMessage, MobileSeat, Actors, Mobile}
use Rattle.world_laws.proofs.Prelude.{is_station_up, tenure_at, AllByRecursion-so, Alive, ended, flow, with_items, released, coming_up}
use Rattle.world_laws.proofs.Prelude.{going_down, seat_from, remembered, draining_tenure, old_tenure, old_tenures, serving_hold}
use Rattle.world_laws.proofs.Prelude.{serving_tenure, commanded_target, target_tenure, waiting_of, taken_of, assembled, line_up, Remembers}
use Rattle.world_laws.proofs.Prelude.{Sits, Leads, NoneOn, LinedUp, leads, at_its_target, between}
use Rattle.conn_rules.specs.Streams.{target_in}
use Rattle.world_laws.specs.LineUp.Places.{Item, LineTenure, Seat}
use Rattle.world_laws.specs.Seated.Remembers.{nothing, by_command}
use Rattle.world_laws.specs.Seated.Sits.{unchanged, gone}
use Rattle.world_laws.proofs.Framing.{AreUp, all_left, all_right, lined-same}
use Rattle.world_laws.proofs.Likening.{Like, AllLike, like_itself, like_released, alive_like}
use Rattle.world_laws.proofs.OwnMoves.{alive_fewer}
use Rattle.world_laws.proofs.Quiet.{all_of}
use Rattle.world_laws.proofs.Sublists.{Sub, sub_length, sub_all, sub_nothing}

-- ---- what is on its way up from a channel is unchanged, or an RF CHANNEL RELEASE ACK joins it

pub data Grown (up : Bool) (now was : List Item) : Type 0 where
  rests : now ≡ was → Grown up now was
  ends : now ≡ was ++ released ∷ [] → up ≡ true → Grown up now was

abbrev pub AreGrown : (ℕ → Bool) → (Place → List Item) → (Place → List Item) → List Channel → Type 0
AreGrown up f g channels = AllByRecursion (λ c. Grown (up c.station) (f (place_of c)) (g (place_of c))) channels

draining_like : (up : Bool) (now was : List Item) (hold : List (List ℕ)) →
    Grown up now was →
    Like (draining_tenure up was hold) (draining_tenure up now hold)
draining_like up now was hold (rests is) = subst (λ (items : List Item). Like (draining_tenure up was hold) (draining_tenure up items hold)) (sym is) (like_itself (draining_tenure up was hold))
draining_like up now was hold (ends is up_is) =
    let more = like_released (draining_tenure true was hold) in
    subst (λ (b : Bool). Like (draining_tenure b was hold) (draining_tenure b now hold)) (sym up_is) (subst (λ (items : List Item). Like (draining_tenure true was hold) (draining_tenure true items hold)) (sym is) (record { hold = refl; messages = more.messages; lost = refl }))

one_like : (f g : Place → List Item) (up : ℕ → Bool) (d : Drain) (ds : List Drain) (hold : List (List ℕ)) →
    AreGrown up f g (undone (d ∷ ds)) →
    Like (old_tenure g up d hold) (old_tenure f up d hold) × AreGrown up f g (undone ds)
one_like f g up d ds hold grown = by_done d.is_done grown where
  by_done : (b : Bool) → AreGrown up f g (if b then undone ds else d.channel ∷ undone ds)
      → Like (if b then ended hold else draining_tenure (up d.channel.station) (g (place_of d.channel)) hold) (if b then ended hold else draining_tenure (up d.channel.station) (f (place_of d.channel)) hold) × AreGrown up f g (undone ds)
  by_done true all = (like_itself (ended hold), all)
  by_done false all = (draining_like (up d.channel.station) (f (place_of d.channel)) (g (place_of d.channel)) hold all.0, all.1)

old_like : (f g : Place → List Item) (up : ℕ → Bool) (ds : List Drain) (holds : List Held) →
    AreGrown up f g (undone ds) →
    AllLike (old_tenures g up ds holds) (old_tenures f up ds holds)
old_like f g up [] holds grown = tt
old_like f g up (d ∷ ds) [] grown = let a = one_like f g up d ds [] grown in (a.0, old_like f g up ds [] a.1)
old_like f g up (d ∷ ds) (held ∷ others) grown = let a = one_like f g up d ds held.zero grown in (a.0, old_like f g up ds others a.1)

-- with other items on their way
items_like : (t : LineTenure) (now : List Item) {up : Bool} → Grown up now t.items → Like t (with_items t now)
items_like t now (rests is) = subst (λ (items : List Item). Like t (with_items t items)) (sym is) (like_itself t)
items_like t now (ends is up) = subst (λ (items : List Item). Like t (with_items t items)) (sym is) (like_released t)

target_like : (f g : Place → List Item) (up : ℕ → Bool) (seat : Seat) (state : State) →
    AreGrown up f g (target_in state) →
    Like (target_tenure g up seat (commanded_target state)) (target_tenure f up seat (commanded_target state))
target_like f g up seat (Live reference (Changing target)) grown = items_like (target_tenure g up seat (Some target)) (f (place_of target.channel)) grown.0
target_like f g up seat _ grown = like_itself (target_tenure g up seat None)

-- ---- a connection sees no more commands on their way, and perhaps an RF CHANNEL RELEASE ACK

pub record SeesLess (w v : Actors) (s : Connection) : Type 0 where
  pub arriving : AreGrown (is_station_up w) (coming_up v) (coming_up w) (used_channels s)
  pub up : AreUp (is_station_up v) (is_station_up w)
  pub serving : Sub (going_down v (place_of s.serving)) (going_down w (place_of s.serving))
  pub target : (t : Target) →
      commanded_target s.state ≡ Some t →
      Sub (going_down v (place_of t.channel)) (going_down w (place_of t.channel))
  pub on_serving : tenure_at v (place_of s.serving) ≡ tenure_at w (place_of s.serving)
  pub on_target : (t : Target) → commanded_target s.state ≡ Some t → tenure_at v (place_of t.channel) ≡ tenure_at w (place_of t.channel)
  pub waiting : waiting_of v s.number ≡ waiting_of w s.number
  pub taken : taken_of v s.number ≡ taken_of w s.number

-- the present tenures of the target
abbrev SameOn : Actors → Actors → Option Target → Type 0
SameOn w v target = (t : Target) → target ≡ Some t → tenure_at v (place_of t.channel) ≡ tenure_at w (place_of t.channel)

remembers_less : {w v : Actors} {target : Option Target} {command : Option _} →
    SameOn w v target →
    Remembers w target command →
    Remembers v target command
remembers_less same nothing = nothing
remembers_less same (by_command {target} is) = by_command
    (is ∙ ap (λ (t : _). record { change = target.change; target = t }) (sym (same target refl)))

sits_less : {w v : Actors} {serving : Channel} {target : Option Target} {seat : MobileSeat} →
    tenure_at v (place_of serving) ≡ tenure_at w (place_of serving) →
    SameOn w v target →
    Sits w serving target seat →
    Sits v serving target seat
sits_less on same (unchanged is remembers) = unchanged (is ∙ sym on) (remembers_less same remembers)
sits_less on same (at_its_target {target} is) = at_its_target (is ∙ sym (same target refl))
sits_less on same (between {target} from is) = between (from ∙ sym on) (is ∙ ap (λ (t : _). record { change = target.change; target = t }) (sym (same target refl)))
sits_less on same gone = gone

leads_less : {w v : Actors} {a : AirMessage} {target : Option Target} → SameOn w v target → Leads w a target → Leads v a target
leads_less same (leads {target} is to) = leads is (to ∙ ap (λ (t : _). Some t) (sym (same target refl)))

none_less : (w v : Actors) (target : Option Target) →
    ((t : Target) → target ≡ Some t → Sub (going_down v (place_of t.channel)) (going_down w (place_of t.channel))) →
    NoneOn w target →
    NoneOn v target
none_less w v None same none = none
none_less w v (Some target) same none = sub_nothing (subst (Sub (going_down v (place_of target.channel))) none (same target refl))

pub lined_up_less : {m : ℕ} {w v : Actors} {s : Connection} (p : Mobile) → SeesLess w v s → LinedUp m w p s → LinedUp m v p s
lined_up_less {m} {w} {v} {s} p sees kept = record {
  alive = subst (Alive m) (sym now)
      (alive_like p.end.sent p.end.zero sits s.state commands (old_tenures (coming_up w) up s.draining s.up.tenures) (old_tenures (coming_up v) up s.draining s.up.tenures)
      (serving_tenure (coming_up w) up s.serving hold) (serving_tenure (coming_up v) up s.serving hold) (target_tenure (coming_up w) up sits (commanded_target s.state)) (target_tenure (coming_up v) up sits (commanded_target s.state)) (flow (waiting_of w s.number)) (flow (taken_of w s.number))
      (old_like (coming_up v) (coming_up w) up s.draining s.up.tenures (all_left (λ c. Grown (up c.station) (coming_up v (place_of c)) (coming_up w (place_of c))) (undone s.draining) (s.serving ∷ target_in s.state) sees.arriving))
      (items_like (serving_tenure (coming_up w) up s.serving hold) (coming_up v (place_of s.serving)) rest.0)
      (target_like (coming_up v) (coming_up w) up sits s.state rest.1)
      (alive_fewer (line_up w p s) commands (let fewer = sub_length sees.serving in omega arith) kept.alive));
  sits = sits_less sees.on_serving sees.on_target kept.sits;
  led = AllByRecursion-so (λ a. Leads w a (commanded_target s.state)) (λ a. Leads v a (commanded_target s.state)) (λ a. leads_less sees.on_target) (going_down v (place_of s.serving)) (sub_all (λ a. Leads w a (commanded_target s.state)) sees.serving kept.led);
  none_on_target = none_less w v (commanded_target s.state) sees.target kept.none_on_target;
  apart = kept.apart;
  placed = kept.placed;
} where
  up : ℕ → Bool
  up = is_station_up w

  sits : Seat
  sits = seat_from s.serving p.seat

  hold : List (List ℕ)
  hold = serving_hold s.draining s.up.tenures

  commands : ℕ
  commands = length (going_down v (place_of s.serving)) + remembered p.seat

  rest : AreGrown up (coming_up v) (coming_up w) (s.serving ∷ target_in s.state)
  rest = all_right (λ c. Grown (up c.station) (coming_up v (place_of c)) (coming_up w (place_of c))) (undone s.draining) (s.serving ∷ target_in s.state) sees.arriving

  now : line_up v p s ≡ assembled p.end.sent p.end.zero sits s.state commands (old_tenures (coming_up v) up s.draining s.up.tenures) (serving_tenure (coming_up v) up s.serving hold) (target_tenure (coming_up v) up sits (commanded_target s.state)) (flow (waiting_of w s.number)) (flow (taken_of w s.number))
  now = lined-same (coming_up v) (coming_up v) (is_station_up v) up (going_down v (place_of s.serving)) (going_down v (place_of s.serving)) (waiting_of v s.number) (waiting_of w s.number) (taken_of v s.number) (taken_of w s.number) p p s
      (all_of (λ c. coming_up v (place_of c) ≡ coming_up v (place_of c)) (used_channels s) (λ c. refl)) sees.up refl sees.waiting sees.taken refl refl refl
