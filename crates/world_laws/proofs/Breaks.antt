-- SPDX-License-Identifier: MIT OR Apache-2.0
-- The link of a station breaks: the connections remain lined up, those that lose something up to
-- where it is missing.
use Rattle.world_laws.proofs.Prelude.{◌≡◌, ◌≢◌, ℕ, zero, suc, ◌+◌, ◌==◌, ◌&&◌, not, nat_eq, Bool, true, false, if◌then◌else◌, List, [], ◌∷◌}
use Rattle.world_laws.proofs.Prelude.{◌++◌, length, map, get_or, set, Option, Some, None, refl, sym, ap, ◌∙◌, subst, inl, inr, arith}
use Rattle.world_laws.proofs.Prelude.{AllByRecursion, flat_map, cases_Bool, eqb-true, eqb-false, ne_eqb, flat_map-append, append-nil}
use Rattle.world_laws.proofs.Prelude.{Channel, Place, SWITCH_LINK, Drain, Target, Connection, undone, used_channels, place_of, Held}
use Rattle.world_laws.proofs.Prelude.{BaseState, after_take_down, Parameters, Event, AirMessage, with_item, after_break}
use Rattle.world_laws.proofs.Prelude.{Actors, Mobile, Link, broken_link, with_link, modulus_in, is_up, is_station_up, base_of}
use Rattle.world_laws.proofs.Prelude.{with_base, outbox_of, spot_at, base-elsewhere, base-there, broken_leads, after_taken, and_right}
use Rattle.world_laws.proofs.Prelude.{AllByRecursion-so, no-length, forwarded, Alive, remains, left, ended, flow, messages_in, controls_in}
use Rattle.world_laws.proofs.Prelude.{texts_in, released, brings_in, made_of, coming_up, leading_from_air, leading_from_outbox, going_down}
use Rattle.world_laws.proofs.Prelude.{seat_from, remembered, is_ended, draining_tenure, old_tenure, old_tenures, serving_hold}
use Rattle.world_laws.proofs.Prelude.{serving_tenure, commanded_target, target_tenure, is_changing, waiting_of, taken_of, assembled}
use Rattle.world_laws.proofs.Prelude.{line_up, Leads, NoneOn, LinedUp, AreLinedUp, EndsLast, StationBreaksKeepLineUps}
use Rattle.conn_rules.specs.Streams.{target_in}
use Rattle.world_laws.specs.LineUp.Alive.{ChangePhase}
use Rattle.world_laws.specs.LineUp.Alive.ChangePhase.{waits, leaves, arrives, returns}
use Rattle.world_laws.specs.LineUp.Places.{Item, Seat}
use Rattle.world_laws.specs.LineUp.Places.Item.{brought}
use Rattle.world_laws.proofs.LineUp.Lines.{messages_in-append, controls_front, texts_front}
use Rattle.ruled_relay.specs.declared.item.What.TheVariants as whats
use Rattle.world_model.specs.Life.{event_after}
use Rattle.world_laws.specs.LineUps.{has_arrived}
use Rattle.world_laws.proofs.Apart.{target_in_is_so}
use Rattle.world_laws.proofs.Cutting.{Cuts, AllCut, cuts_itself, alive_cut}
use Rattle.world_laws.proofs.Cutting.Cuts.{whole, breaks}
use Rattle.world_laws.proofs.Framing.{all_left, all_right, lined-same}
use Rattle.world_laws.proofs.Quiet.{all_of, ArePlaced, down_with_base}
use Rattle.world_laws.proofs.Seeing.{SameTenures, sits_same, leads_same}
use Rattle.world_laws.proofs.Spots.{set-apart, tenure_with_base}
use Rattle.world_laws.proofs.Sublists.{Sub, sub_itself, sub_none, sub_append, sub_flat_map, sub_length, sub_all, sub_nothing, set_related}
use Rattle.world_laws.proofs.Events.{world}

-- ---- what is on its way up from one channel

-- it is unchanged, or the link breaks and a part of it is dropped
pub data Breaks (up now_up : Bool) (was now : List Item) : Type 0 where
  unchanged : now_up ≡ up → now ≡ was → Breaks up now_up was now
  drops : (dropped : List Item) → up ≡ true → now_up ≡ false → was ≡ now ++ dropped → Breaks up now_up was now

-- behind an RF CHANNEL RELEASE ACK nothing was
none_behind : (items dropped : List Item) → is_ended items ≡ true → EndsLast (items ++ dropped) → dropped ≡ []
none_behind (released ∷ []) dropped is last = last
none_behind (brought message ∷ items) dropped is last = none_behind items dropped is last
none_behind _ dropped is last = absurd cc

draining_breaks : (up now_up : Bool) (was now : List Item) (hold : List (List ℕ)) →
    EndsLast was →
    Breaks up now_up was now →
    Cuts (draining_tenure up was hold) (draining_tenure now_up now hold)
draining_breaks up now_up was now hold last (unchanged is same) = subst (λ (b : Bool). Cuts (draining_tenure up was hold) (draining_tenure b now hold)) (sym is) (subst (λ (items : List Item). Cuts (draining_tenure up was hold) (draining_tenure up items hold)) (sym same) (cuts_itself (draining_tenure up was hold)))
draining_breaks up now_up was now hold last (drops dropped is down parts) = by_end (is_ended now) refl where
  by_end : (b : Bool) → is_ended now ≡ b → Cuts (draining_tenure up was hold) (draining_tenure now_up now hold)
  by_end false none = breaks (messages_in dropped) refl (ap messages_in parts ∙ messages_in-append now dropped) (ap (λ (b : Bool). not b && not (is_ended now)) down ∙ ap not none)
  by_end true some =
      let all : was ≡ now = parts ∙ ap (λ (xs : List Item). now ++ xs) (none_behind now dropped some (subst EndsLast parts last)) ∙ append-nil now in
      whole refl (sym (ap (λ (items : List Item). flow (messages_in items)) all)) (let same = ap controls_in all in omega arith)
      (ap (λ (b : Bool). not b && not (is_ended now)) down ∙ ap not some ∙ sym (ap (λ (b : Bool). not b && not (is_ended was)) is))

serving_breaks : (up now_up : Bool) (was now : List Item) (hold : List (List ℕ)) →
    Breaks up now_up was now →
    Cuts (record { hold = hold; items = was; is_lost = not up; is_done = false }) (record { hold = hold; items = now; is_lost = not now_up; is_done = false })
serving_breaks up now_up was now hold (unchanged is same) = whole refl (ap (λ (items : List Item). flow (messages_in items)) same) (let equal = ap controls_in same in omega arith) (ap not is)
serving_breaks up now_up was now hold (drops dropped is down parts) = breaks (messages_in dropped) refl (ap messages_in parts ∙ messages_in-append now dropped) (ap not down)

-- nothing was on its way of a target that the mobile didn't arrive on
target_breaks : (up now_up : Bool) (was now : List Item) (there : Bool) →
    (there ≡ false → texts_in was ≡ 0) →
    Breaks up now_up was now →
    Cuts (record { hold = []; items = was; is_lost = not up && there; is_done = false }) (record { hold = []; items = now; is_lost = not now_up && there; is_done = false })
target_breaks up now_up was now there none (unchanged is same) = whole refl (ap (λ (items : List Item). flow (messages_in items)) same) (let equal = ap controls_in same in omega arith) (ap (λ (b : Bool). not b && there) is)
target_breaks up now_up was now true none (drops dropped is down parts) = breaks (messages_in dropped) refl (ap messages_in parts ∙ messages_in-append now dropped) (ap (λ (b : Bool). not b && true) down)
target_breaks up now_up was now false none (drops dropped is down parts) =
    let fewer = texts_front now dropped in
    let all = ap texts_in parts in
    let zero_before = none refl in
    whole refl (no-length (flow (messages_in now)) (omega arith) ∙ sym (no-length (flow (messages_in was)) zero_before)) (let counts = ap controls_in parts in let front = controls_front now dropped in omega arith)
    (ap (λ (b : Bool). not b && false) down ∙ sym (ap (λ (b : Bool). not b && false) is))

-- ---- all tenures

AllBreak : (Place → List Item) → (Place → List Item) → (ℕ → Bool) → (ℕ → Bool) → List Channel → Type 0
AllBreak before after up now_up cs = AllByRecursion (λ c. Breaks (up c.station) (now_up c.station) (before (place_of c)) (after (place_of c))) cs

AllEndLast : (Place → List Item) → List Channel → Type 0
AllEndLast before cs = AllByRecursion (λ c. EndsLast (before (place_of c))) cs

one_breaks : (before after : Place → List Item) (up now_up : ℕ → Bool) (d : Drain) (ds : List Drain) (hold : List (List ℕ)) → AllBreak before after up now_up (undone (d ∷ ds)) → AllEndLast before (undone (d ∷ ds))
    → Cuts (old_tenure before up d hold) (old_tenure after now_up d hold) × (AllBreak before after up now_up (undone ds) × AllEndLast before (undone ds))
unfolding AllBreak AllEndLast
one_breaks before after up now_up d ds hold broken last = by_done d.is_done broken last where
  by_done : (b : Bool) → AllBreak before after up now_up (if b then undone ds else d.channel ∷ undone ds) → AllEndLast before (if b then undone ds else d.channel ∷ undone ds)
      → Cuts (if b then ended hold else draining_tenure (up d.channel.station) (before (place_of d.channel)) hold) (if b then ended hold else draining_tenure (now_up d.channel.station) (after (place_of d.channel)) hold) × (AllBreak before after up now_up (undone ds) × AllEndLast before (undone ds))
  by_done true all last = (cuts_itself (ended hold), (all, last))
  by_done false all last = (draining_breaks (up d.channel.station) (now_up d.channel.station) (before (place_of d.channel)) (after (place_of d.channel)) hold last.0 all.0, (all.1, last.1))

old_breaks : (before after : Place → List Item) (up now_up : ℕ → Bool) (ds : List Drain) (holds : List Held) →
    AllBreak before after up now_up (undone ds) →
    AllEndLast before (undone ds) →
    AllCut (old_tenures before up ds holds) (old_tenures after now_up ds holds)
old_breaks before after up now_up [] holds broken last = tt
old_breaks before after up now_up (d ∷ ds) [] broken last = let a = one_breaks before after up now_up d ds [] broken last in (a.0, old_breaks before after up now_up ds [] a.1.0 a.1.1)
old_breaks before after up now_up (d ∷ ds) (held ∷ others) broken last = let a = one_breaks before after up now_up d ds held.zero broken last in (a.0, old_breaks before after up now_up ds others a.1.0 a.1.1)

-- nothing arrived of a target that the mobile didn't arrive on
no_texts : {opening : Bool} {commands serving texts target link : ℕ} {seat : Seat} →
    has_arrived seat ≡ false →
    ChangePhase opening true commands seat serving texts target link →
    texts ≡ 0
no_texts away (waits here few none) = omega arith
no_texts away (leaves none) = omega arith
no_texts away (arrives remains none few) = absurd cc
no_texts away (arrives left none few) = absurd cc
no_texts away (returns here none few) = omega arith

target_bare : (f : Place → List Item) (up : ℕ → Bool) (seat : Seat) (o : Option Target) {opening : Bool} {commands serving target link : ℕ} →
    ChangePhase opening (is_changing o) commands seat serving (texts_in (target_tenure f up seat o).items) target link →
    has_arrived seat ≡ false →
    texts_in (target_tenure f up seat o).items ≡ 0
target_bare f up seat None phase away = refl
target_bare f up seat (Some t) phase away = no_texts away phase

target_breaks_in : (before after : Place → List Item) (up now_up : ℕ → Bool) (seat : Seat) (o : Option Target) → ((t : Target) → o ≡ Some t → Breaks (up t.channel.station) (now_up t.channel.station) (before (place_of t.channel)) (after (place_of t.channel)))
    → (has_arrived seat ≡ false → texts_in (target_tenure before up seat o).items ≡ 0) → Cuts (target_tenure before up seat o) (target_tenure after now_up seat o)
target_breaks_in before after up now_up seat None broken none = cuts_itself (target_tenure before up seat None)
target_breaks_in before after up now_up seat (Some t) broken none = target_breaks (up t.channel.station) (now_up t.channel.station) (before (place_of t.channel)) (after (place_of t.channel)) (has_arrived seat) none (broken t refl)

-- a target is lost only where its mobile has_arrived
pub target_came : (after : Place → List Item) (now_up : ℕ → Bool) (seat : Seat) (o : Option Target) →
    (target_tenure after now_up seat o).is_lost ≡ true →
    has_arrived seat ≡ true
target_came after now_up seat None is = absurd cc
target_came after now_up seat (Some t) is = and_right (not (now_up t.channel.station)) (has_arrived seat) is

-- ---- the world

abbrev broken_world : Actors → ℕ → Actors
broken_world w station = with_item (record { source = station; what = whats.Down }) (with_base station (after_take_down (base_of (with_link station broken_link w) station)) (with_link station broken_link w))

set-itself : (links : List Link) (n : ℕ) → get_or (set links n broken_link) n broken_link ≡ broken_link
set-itself [] n = refl
set-itself (link ∷ links) zero = refl
set-itself (link ∷ links) (suc n) = set-itself links n

nothing_made : (w : Actors) (station : ℕ) → (base_of (broken_world w station) station).messages ≡ []
nothing_made w station = elim (base-there (with_link station broken_link w) station (after_take_down (base_of w station))) [
  | inl is ↦ ap (λ (b : BaseState). b.messages) is
  | inr nowhere ↦ ap (λ (b : BaseState). b.messages) nowhere.0
]

inbox-broken : (w : Actors) (station : ℕ) (at : Place) →
    flat_map (brings_in at) (broken_world w station).inbox ≡ flat_map (brings_in at) w.inbox
inbox-broken w station at = flat_map-append (brings_in at) w.inbox (record { source = station; what = whats.Down } ∷ []) ∙ append-nil (flat_map (brings_in at) w.inbox)

coming_broken : (w : Actors) (station : ℕ) (c : Channel) →
    c.station ≢ SWITCH_LINK →
    station ≢ SWITCH_LINK →
    is_up w station ≡ true →
    Breaks (is_station_up w c.station) (is_station_up (broken_world w station) c.station) (coming_up w (place_of c)) (coming_up (broken_world w station) (place_of c))
coming_broken w station c c_is station_is up =
    elim (cases_Bool (nat_eq c.station station)) [
      | inl here ↦ drops (made_of c.number (base_of w c.station).messages) (is_there (eqb-true c.station station here)) (down_by_break (eqb-true c.station station here)) (parts (eqb-true c.station station here))
      | inr other ↦ unchanged (ap (λ (link : Link). not (c.station == SWITCH_LINK) && link.up) (set-apart w.links broken_link station c.station broken_link (eqb-false c.station station other)))
          (ap (λ (xs : List Item). xs ++ made_of c.number (base_of (broken_world w station) c.station).messages) (inbox-broken w station (place_of c))
          ∙ ap (λ (b : BaseState). flat_map (brings_in (place_of c)) w.inbox ++ made_of c.number b.messages) (base-elsewhere (with_link station broken_link w) c.station station (after_take_down (base_of w station)) c_is station_is (eqb-false c.station station other)))
    ] where
      is_there : c.station ≡ station → is_station_up w c.station ≡ true
      is_there is = ap (λ (b : Bool). not b && is_up w c.station) (ne_eqb c.station 0 c_is) ∙ ap (is_up w) is ∙ up

      down_by_break : c.station ≡ station → is_station_up (broken_world w station) c.station ≡ false
      down_by_break is = ap (λ (b : Bool). not b && is_up (broken_world w station) c.station) (ne_eqb c.station 0 c_is) ∙ ap (is_up (broken_world w station)) is ∙ ap (λ (link : Link). link.up) (set-itself w.links station)

      parts : c.station ≡ station →
          coming_up w (place_of c) ≡ coming_up (broken_world w station) (place_of c) ++ made_of c.number (base_of w c.station).messages
      parts is = sym (ap (λ (xs : List Item). (xs ++ made_of c.number (base_of (broken_world w station) c.station).messages) ++ made_of c.number (base_of w c.station).messages) (inbox-broken w station (place_of c))
          ∙ ap (λ (n : ℕ). (flat_map (brings_in (place_of c)) w.inbox ++ made_of c.number (base_of (broken_world w station) n).messages) ++ made_of c.number (base_of w c.station).messages) is
          ∙ ap (λ (ms : List _). (flat_map (brings_in (place_of c)) w.inbox ++ made_of c.number ms) ++ made_of c.number (base_of w c.station).messages) (nothing_made w station)
          ∙ ap (λ (xs : List Item). xs ++ made_of c.number (base_of w c.station).messages) (append-nil (flat_map (brings_in (place_of c)) w.inbox)))

all_broken : (w : Actors) (station : ℕ) (cs : List Channel) →
    ArePlaced cs →
    station ≢ SWITCH_LINK →
    is_up w station ≡ true →
    AllBreak (coming_up w) (coming_up (broken_world w station)) (is_station_up w) (is_station_up (broken_world w station)) cs
unfolding AllBreak
all_broken w station [] placed station_is up = tt
all_broken w station (c ∷ cs) placed station_is up = (coming_broken w station c placed.0 station_is up, all_broken w station cs placed.1 station_is up)

down_broken : (w : Actors) (station : ℕ) (at : Place) → Sub (going_down (broken_world w station) at) (going_down w at)
down_broken w station at =
    subst (λ (entries : List AirMessage). Sub entries (going_down w at)) (sym (down_with_base (with_link station broken_link w) station (after_take_down (base_of w station)) at))
    (sub_append (sub_itself (flat_map leading_from_air (spot_at w at).air)) (sub_flat_map (leading_from_outbox at.number)
    (set_related (λ (a b : Link). Sub a.outbox b.outbox) (λ link. sub_itself link.outbox) w.links broken_link station at.station broken_link (sub_none (outbox_of w station)))))

keeps_broken : {m : ℕ} {w : Actors} {s : Connection} (p : Mobile) (station : ℕ) →
    station ≢ SWITCH_LINK →
    is_up w station ≡ true →
    AllByRecursion (λ c. EndsLast (coming_up w (place_of c))) (undone s.draining) →
    LinedUp m w p s →
    LinedUp m (broken_world w station) p s
unfolding SameTenures AllBreak AllEndLast
keeps_broken {m} {w} {s} p station station_is up last kept = record {
  alive = subst (Alive m) (sym now)
      (alive_cut p.end.sent p.end.zero sits s.state (length (going_down w (place_of s.serving)) + remembered p.seat) commands (old_tenures (coming_up w) (is_station_up w) s.draining s.up.tenures) (old_tenures (coming_up v) (is_station_up v) s.draining s.up.tenures)
      (serving_tenure (coming_up w) (is_station_up w) s.serving hold) (serving_tenure (coming_up v) (is_station_up v) s.serving hold) (target_tenure (coming_up w) (is_station_up w) sits (commanded_target s.state)) (target_tenure (coming_up v) (is_station_up v) sits (commanded_target s.state))
      (flow (waiting_of w s.number)) (flow (taken_of w s.number)) (let fewer = sub_length (down_broken w station (place_of s.serving)) in omega arith)
      (old_breaks (coming_up w) (coming_up v) (is_station_up w) (is_station_up v) s.draining s.up.tenures (all_left (λ c. Breaks (is_station_up w c.station) (is_station_up v c.station) (coming_up w (place_of c)) (coming_up v (place_of c))) (undone s.draining) (s.serving ∷ target_in s.state) broken) last)
      (serving_breaks (is_station_up w s.serving.station) (is_station_up v s.serving.station) (coming_up w (place_of s.serving)) (coming_up v (place_of s.serving)) hold rest.0)
      (target_breaks_in (coming_up w) (coming_up v) (is_station_up w) (is_station_up v) sits (commanded_target s.state) of_target (target_bare (coming_up w) (is_station_up w) sits (commanded_target s.state) kept.alive.phase))
      (target_came (coming_up v) (is_station_up v) sits (commanded_target s.state)) kept.alive);
  sits = sits_same same_tenures kept.sits;
  led = AllByRecursion-so (λ a. Leads w a (commanded_target s.state)) (λ a. Leads v a (commanded_target s.state)) (λ a. leads_same same_tenures) (going_down v (place_of s.serving)) (sub_all (λ a. Leads w a (commanded_target s.state)) (down_broken w station (place_of s.serving)) kept.led);
  none_on_target = none_on (commanded_target s.state) kept.none_on_target;
  apart = kept.apart;
  placed = kept.placed;
} where
  v : Actors
  v = broken_world w station

  sits : Seat
  sits = seat_from s.serving p.seat

  hold : List (List ℕ)
  hold = serving_hold s.draining s.up.tenures

  commands : ℕ
  commands = length (going_down v (place_of s.serving)) + remembered p.seat

  same_tenures : SameTenures w v
  same_tenures at = tenure_with_base (with_link station broken_link w) station (after_take_down (base_of w station)) at

  broken : AllBreak (coming_up w) (coming_up v) (is_station_up w) (is_station_up v) (used_channels s)
  broken = all_broken w station (used_channels s) kept.placed station_is up

  rest : AllBreak (coming_up w) (coming_up v) (is_station_up w) (is_station_up v) (s.serving ∷ target_in s.state)
  rest = all_right (λ c. Breaks (is_station_up w c.station) (is_station_up v c.station) (coming_up w (place_of c)) (coming_up v (place_of c))) (undone s.draining) (s.serving ∷ target_in s.state) broken

  of_target : (t : Target) →
      commanded_target s.state ≡ Some t →
      Breaks (is_station_up w t.channel.station) (is_station_up v t.channel.station) (coming_up w (place_of t.channel)) (coming_up v (place_of t.channel))
  of_target t is = (subst (AllBreak (coming_up w) (coming_up v) (is_station_up w) (is_station_up v)) (target_in_is_so s.state t is) rest.1).0

  none_on : (o : Option Target) → NoneOn w o → NoneOn v o
  none_on None none = none
  none_on (Some t) none = sub_nothing (subst (Sub (going_down v (place_of t.channel))) none (down_broken w station (place_of t.channel)))

  now : line_up v p s ≡ assembled p.end.sent p.end.zero sits s.state commands (old_tenures (coming_up v) (is_station_up v) s.draining s.up.tenures) (serving_tenure (coming_up v) (is_station_up v) s.serving hold) (target_tenure (coming_up v) (is_station_up v) sits (commanded_target s.state)) (flow (waiting_of w s.number)) (flow (taken_of w s.number))
  now = lined-same (coming_up v) (coming_up v) (is_station_up v) (is_station_up v) (going_down v (place_of s.serving)) (going_down v (place_of s.serving)) (waiting_of v s.number) (waiting_of w s.number) (taken_of v s.number) (taken_of w s.number) p p s
      (all_of (λ c. coming_up v (place_of c) ≡ coming_up v (place_of c)) (used_channels s) (λ c. refl)) (λ n. refl) refl
      (ap (λ (link : Link). map (λ f. f.message) (forwarded (map (λ entry. entry.out) link.outbox) s.number)) (set-apart w.links broken_link station SWITCH_LINK broken_link (λ is. station_is (sym is)))) refl refl refl refl

pub station_breaks_keep_line_ups_new : (settings : Parameters) (events : List Event) (station : ℕ) →
    StationBreaksKeepLineUps settings events station
unfolding event_after
station_breaks_keep_line_ups_new settings events station mobile s station_is last lined =
    let w : Actors = world settings events in
    after_taken (λ v. AreLinedUp (modulus_in settings) v mobile s) (after_break w station) w
    (broken_leads (λ v. AreLinedUp (modulus_in settings) v mobile s) w station (λ up is. absurd (station_is is)) (λ up _. record { one = lined.one; found = lined.found; lined = keeps_broken lined.one station station_is up last lined.lined })) lined
