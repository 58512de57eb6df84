-- SPDX-License-Identifier: MIT OR Apache-2.0
-- What a station takes of its outbox keeps connections lined up.
use Rattle.world_laws.proofs.Prelude.{◌≡◌, ◌≢◌, ℕ, ◌-◌, ◌==◌, ◌&&◌, not, nat_eq, Bool, true, false, if◌then◌else◌, cond, List, [], ◌∷◌}
use Rattle.world_laws.proofs.Prelude.{◌++◌, map, find, get_or, set, Option, Some, None, refl, sym, ap, ◌∙◌, subst, append_assoc}
use Rattle.world_laws.proofs.Prelude.{inl, inr, AllByRecursion, flat_map, eqb-true, eqb-false, flat_map-append, append-nil, Channel, Place}
use Rattle.world_laws.proofs.Prelude.{SWITCH_LINK, Target, Connection, is_at, undone, used_channels, place_at, place_of, LinkFault, Busy}
use Rattle.world_laws.proofs.Prelude.{BaseState, is_active, after_tell, after_activate, refusal_of_activate, after_release, activation_ack}
use Rattle.world_laws.proofs.Prelude.{Rsl, DataRequest, EstablishRequest, ImmediateAssignCommand, ChannelActivation, RfChannelRelease}
use Rattle.world_laws.proofs.Prelude.{RfChannelReleaseAck, Parameters, Event, MAX_TENURE, AirMessage, OutboxEntry, Asking, On, Tenure}
use Rattle.world_laws.proofs.Prelude.{rsl_in, new_tenure, activated_unless, activated, link_answer, answered, accepts}
use Rattle.world_laws.proofs.Prelude.{mobile_on, took, after_base_takes, Actors, Mobile, Spot, Link, new_spot, no_station, station_of}
use Rattle.world_laws.proofs.Prelude.{has_number, mobile_of, with_mobile, broken_link, link_of, is_station_up, outbox_of}
use Rattle.world_laws.proofs.Prelude.{with_outbox, base_of, with_base, spot_at, with_spot, is_active_at, tenure_at, back_other}
use Rattle.world_laws.proofs.Prelude.{number_found, SameEnds, base_with_spot, up_right, base_takes_leads, assigned-leads, unless_last_leads}
use Rattle.world_laws.proofs.Prelude.{after_taken, changed_link, same_Some, spot_with_base, forwarded, rr_reading, release_ack, made_of}
use Rattle.world_laws.proofs.Prelude.{coming_up, leading, leading_from_air, leading_by, leading_from_outbox, going_down, commanded_target}
use Rattle.world_laws.proofs.Prelude.{waiting_of, Sits, commanded_channels, AreActiveAt, AreLinedUp, StationsKeepLineUps}
use Rattle.conn_rules.specs.Streams.{target_in}
use Rattle.world_laws.specs.LineUp.Places.{Item}
use Rattle.world_model.specs.Life.{event_after}
use Rattle.world_model.specs.Stations.{released}
use Rattle.world_model.specs.World.{Station}
use Rattle.world_model.proofs.Leads.{OfTaken, Seats}
use Rattle.world_laws.proofs.Apart.{all_both, target_in_is_so}
use Rattle.world_laws.proofs.BaseTakes.{Grown, AreGrown, SeesLess, lined_up_less}
use Rattle.world_laws.proofs.BaseTakes.Grown.{rests, ends}
use Rattle.world_laws.proofs.Framing.{AreUp, all_right}
use Rattle.world_laws.proofs.Projecting.{coming_quiet, coming_told_or}
use Rattle.world_laws.proofs.Quiet.{all_of, ArePlaced, down_with_base, coming_with_spot, sees_itself, sees_mobiles}
use Rattle.world_laws.proofs.Seeing.{lined_up_same}
use Rattle.world_laws.proofs.Spots.{set-same, set-apart, spot-elsewhere, tenure_with_base, tenure_with_spot}
use Rattle.world_laws.proofs.Sublists.{Sub, sub_itself, sub_none, sub_front, sub_append, sub_flat_map, sub_trans, set_related}
use Rattle.world_laws.proofs.Sublists.Sub.{drops}
use Rattle.world_laws.proofs.Events.{world}

-- ---- the entry is taken from the outbox

outbox_sub : (w : Actors) (station : ℕ) (first : OutboxEntry) (others : List OutboxEntry) (n : ℕ) →
    outbox_of w station ≡ first ∷ others →
    Sub (outbox_of (with_outbox station others w) n) (outbox_of w n)
outbox_sub w station first others n pending =
    set_related (λ (a b : Link). Sub a.outbox b.outbox) (λ link. sub_itself link.outbox) w.links broken_link station n (record (link_of w station) { outbox = others }) (subst (Sub others) (sym pending) (drops (sub_itself others)))

up_taken : (w : Actors) (station : ℕ) (others : List OutboxEntry) → AreUp (is_station_up (with_outbox station others w)) (is_station_up w)
up_taken w station others n = ap (λ (b : Bool). not (n == SWITCH_LINK) && b) (set-same (λ (link : Link). link.up) w.links broken_link station n (record (link_of w station) { outbox = others }) refl)

pub waiting_taken : (w : Actors) (station : ℕ) (others : List OutboxEntry) (number : ℕ) →
    station ≢ SWITCH_LINK →
    waiting_of (with_outbox station others w) number ≡ waiting_of w number
waiting_taken w station others number differs =
    ap (λ (link : Link). map (λ f. f.message) (forwarded (map (λ entry. entry.out) link.outbox) number)) (set-apart w.links broken_link station SWITCH_LINK (record (link_of w station) { outbox = others }) (λ is. differs (sym is)))

down_taken : (w : Actors) (station : ℕ) (first : OutboxEntry) (others : List OutboxEntry) (at : Place) →
    outbox_of w station ≡ first ∷ others →
    Sub (going_down (with_outbox station others w) at) (going_down w at)
down_taken w station first others at pending = sub_append (sub_itself (flat_map leading_from_air (spot_at w at).air)) (sub_flat_map (leading_from_outbox at.number) (outbox_sub w station first others at.station pending))

less_taken : {w : Actors} {s : Connection} (station : ℕ) (first : OutboxEntry) (others : List OutboxEntry) →
    station ≢ SWITCH_LINK →
    outbox_of w station ≡ first ∷ others →
    SeesLess w (with_outbox station others w) s
less_taken {w} {s} station first others differs pending = record {
  arriving = all_of (λ c. Grown (is_station_up w c.station) (coming_up w (place_of c)) (coming_up w (place_of c))) (used_channels s) (λ c. rests refl);
  up = up_taken w station others;
  serving = down_taken w station first others (place_of s.serving) pending;
  target = λ t is. down_taken w station first others (place_of t.channel) pending;
  on_serving = refl;
  on_target = λ t is. refl;
  waiting = waiting_taken w station others s.number differs;
  taken = refl;
}

-- ---- the station sends something that brings nothing

less_told : {w u : Actors} {s : Connection} (station : ℕ) (base : BaseState) (messages : List Rsl) → ArePlaced (used_channels s) → is_station_up w station ≡ true → SameEnds w u → u.inbox ≡ w.inbox → base.messages ≡ (base_of w station).messages ++ messages → ((channel : ℕ) → made_of channel messages ≡ [])
    → SeesLess w u s → SeesLess w (with_base station base u) s
less_told {w} {u} {s} station base messages placed up same inbox appended nothing sees = record {
  arriving = all_both (λ c. c.station ≢ SWITCH_LINK) (λ c. c.station ≢ SWITCH_LINK) (λ c. Grown (is_station_up w c.station) (coming_up (with_base station base u) (place_of c)) (coming_up w (place_of c))) (used_channels s)
      (λ c c_is _. rests (coming_quiet w u station (place_of c) base messages c_is up same inbox appended (nothing c.number))) placed
      placed;
  up = sees.up;
  serving = subst (λ (entries : List AirMessage). Sub entries (going_down w (place_of s.serving))) (sym (down_with_base u station base (place_of s.serving))) sees.serving;
  target = λ t is. subst (λ (entries : List AirMessage). Sub entries (going_down w (place_of t.channel))) (sym (down_with_base u station base (place_of t.channel))) (sees.target t is);
  on_serving = tenure_with_base u station base (place_of s.serving) ∙ sees.on_serving;
  on_target = λ t is. tenure_with_base u station base (place_of t.channel) ∙ sees.on_target t is;
  waiting = sees.waiting;
  taken = sees.taken;
}

-- ---- a channel changes, where no more leads anywhere

pub spot_related : (R : Spot → Spot → Type 0) →
    ((x : Spot) → R x x) →
    (u : Actors) (at : Place) (spot : Spot) (other : Place) →
    R spot (spot_at u at) →
    R (spot_at (with_spot at spot u) other) (spot_at u other)
spot_related R same u at spot other is =
    set_related (λ (a b : Station). R (get_or a.spots other.number new_spot) (get_or b.spots other.number new_spot)) (λ x. same (get_or x.spots other.number new_spot)) u.stations no_station (at.station - 1) (other.station - 1) (record (station_of u at.station) { spots = set (station_of u at.station).spots at.number spot })
    (set_related R same (station_of u at.station).spots new_spot at.number other.number spot is)

abbrev pub LeadsLess : Spot → Spot → Type 0
LeadsLess a b = Sub (flat_map leading_from_air a.air) (flat_map leading_from_air b.air)

down_less : (u : Actors) (at : Place) (spot : Spot) (other : Place) →
    LeadsLess spot (spot_at u at) →
    Sub (going_down (with_spot at spot u) other) (going_down u other)
down_less u at spot other less = sub_append (spot_related LeadsLess (λ x. sub_itself (flat_map leading_from_air x.air)) u at spot other less) (sub_itself (flat_map (leading_from_outbox other.number) (outbox_of u other.station)))

grown_spot : (w u : Actors) (at : Place) (spot : Spot) (cs : List Channel) →
    AreGrown (is_station_up w) (coming_up u) (coming_up w) cs →
    AreGrown (is_station_up w) (coming_up (with_spot at spot u)) (coming_up w) cs
grown_spot w u at spot [] grown = tt
grown_spot w u at spot (c ∷ cs) grown = (subst (λ (items : List Item). Grown (is_station_up w c.station) items (coming_up w (place_of c))) (sym (coming_with_spot u at spot (place_of c))) grown.0, grown_spot w u at spot cs grown.1)

less_spot : {w u : Actors} {s : Connection} (at : Place) (spot : Spot) → LeadsLess spot (spot_at u at) → tenure_at (with_spot at spot u) (place_of s.serving) ≡ tenure_at u (place_of s.serving) → ((t : Target) → commanded_target s.state ≡ Some t → tenure_at (with_spot at spot u) (place_of t.channel) ≡ tenure_at u (place_of t.channel))
    → SeesLess w u s → SeesLess w (with_spot at spot u) s
less_spot {w} {u} {s} at spot less on to sees = record {
  arriving = grown_spot w u at spot (used_channels s) sees.arriving;
  up = sees.up;
  serving = sub_trans (down_less u at spot (place_of s.serving) less) sees.serving;
  target = λ t is. sub_trans (down_less u at spot (place_of t.channel) less) (sees.target t is);
  on_serving = on ∙ sees.on_serving;
  on_target = λ t is. to t is ∙ sees.on_target t is;
  waiting = sees.waiting;
  taken = sees.taken;
}

-- in the same tenure
less_same_tenure : {w u : Actors} {s : Connection} (at : Place) (spot : Spot) →
    LeadsLess spot (spot_at u at) →
    spot.tenure ≡ (spot_at u at).tenure →
    SeesLess w u s →
    SeesLess w (with_spot at spot u) s
less_same_tenure {u} {s} at spot less tenure sees = less_spot at spot less (tenure_with_spot u at spot (place_of s.serving) tenure) (λ t is. tenure_with_spot u at spot (place_of t.channel) tenure) sees

-- ---- a channel is activated: none of those that are active

inactive_of : (base : BaseState) (channel : ℕ) → refusal_of_activate base channel ≡ None → is_active base.active channel ≡ true → ⊥
inactive_of base channel free active = absurd (none (sym (ap (λ (b : Bool). if b then Some Busy else None) active) ∙ free)) where
  none : Some Busy ≡ None → ⊥
  none h = absurd cc

apart_active : (w : Actors) (station channel : ℕ) (c : Channel) →
    refusal_of_activate (base_of w station) channel ≡ None →
    (c.station ≡ station → is_active_at w (place_of c) ≡ true) →
    is_at (place_at station channel) c ≡ false
apart_active w station channel c free active = by_both (nat_eq station c.station) (nat_eq channel c.number) refl refl where
  by_both : (a b : Bool) → nat_eq station c.station ≡ a → nat_eq channel c.number ≡ b → (a && b) ≡ false
  by_both false b one two = refl
  by_both true false one two = refl
  by_both true true one two = absurd (inactive_of (base_of w station) channel free
      (ap (λ (n : ℕ). is_active (base_of w n).active channel) (eqb-true station c.station one) ∙ ap (is_active (base_of w c.station).active) (eqb-true channel c.number two) ∙ active (sym (eqb-true station c.station one))))

less_activated : {w u : Actors} {s : Connection} (station channel : ℕ) → ArePlaced (used_channels s) → is_station_up w station ≡ true → SameEnds w u → u.inbox ≡ w.inbox → refusal_of_activate (base_of u station) channel ≡ None → AreActiveAt station w s
    → SeesLess w u s → SeesLess w (with_spot (place_at station channel) (new_tenure (spot_at u (place_at station channel))) (with_base station (after_activate (base_of u station) channel) u)) s
less_activated {w} {u} {s} station channel placed up same inbox free active sees =
    less_spot (place_at station channel) (new_tenure (spot_at u (place_at station channel))) (sub_none _) (elsewhere s.serving placed_rest.0 active.0)
    (λ t is. elsewhere t.channel (subst ArePlaced (target_in_is_so s.state t is) placed_rest.1).0 (subst (λ (o : Option Target). AllByRecursion (λ c. c.station ≡ station → is_active_at w (place_of c) ≡ true) (commanded_channels o)) is active.1).0)
    (less_told station (after_activate (base_of u station) channel) (activation_ack channel ∷ []) placed up same inbox (ap (λ (b : BaseState). b.messages ++ activation_ack channel ∷ []) (same station)) (λ k. refl) sees) where
      v : Actors
      v = with_base station (after_activate (base_of u station) channel) u

      placed_rest : ArePlaced (s.serving ∷ target_in s.state)
      placed_rest = all_right (λ c. c.station ≢ SWITCH_LINK) (undone s.draining) (s.serving ∷ target_in s.state) placed

      elsewhere : (c : Channel) →
          c.station ≢ SWITCH_LINK →
          (c.station ≡ station → is_active_at w (place_of c) ≡ true) →
          tenure_at (with_spot (place_at station channel) (new_tenure (spot_at u (place_at station channel))) v) (place_of c) ≡ tenure_at v (place_of c)
      elsewhere c c_is is = ap (λ (x : Spot). record { at = place_of c; number = x.tenure }) (spot-elsewhere v (place_at station channel) (new_tenure (spot_at u (place_at station channel))) c (up_right station w up).0 c_is
          (apart_active w station channel c (subst (λ (b : BaseState). refusal_of_activate b channel ≡ None) (same station) free) is))

-- ---- a message is sent into the air of an active channel

abbrev pub aired : Actors → ℕ → ℕ → List ℕ → OutboxEntry → List OutboxEntry → Actors
aired w station channel message first others =
    let at : Place = place_at station channel in
    with_spot at (record (spot_at w at) { air = (spot_at w at).air ++ record { message = message; target = first.target } ∷ [] }) (with_outbox station others w)

-- and no more leads down to any channel
pub down_aired : (w : Actors) (station channel : ℕ) (message : List ℕ) (first : OutboxEntry) (others : List OutboxEntry) (c : Channel) → c.station ≢ SWITCH_LINK → is_station_up w station ≡ true → outbox_of w station ≡ first ∷ others
    → ((n : ℕ) → (channel == n) ≡ true → leading_from_outbox n first ≡ leading message first.target)
    → Sub (going_down (aired w station channel message first others) (place_of c)) (going_down w (place_of c))
down_aired w station channel message first others c c_is up pending leads = by_both (nat_eq station c.station) (nat_eq channel c.number) refl refl where
  at : Place
  at = place_at station channel

  u : Actors
  u = with_outbox station others w

  spot : Spot
  spot = record (spot_at w at) { air = (spot_at w at).air ++ record { message = message; target = first.target } ∷ [] }

  in_air : (other : Place) →
      Sub (flat_map leading_from_air (spot_at (with_spot at spot u) other).air) (flat_map leading_from_air (spot_at w other).air ++ leading message first.target)
  in_air other = spot_related (λ (a b : Spot). Sub (flat_map leading_from_air a.air) (flat_map leading_from_air b.air ++ leading message first.target)) (λ x. sub_front (flat_map leading_from_air x.air) (leading message first.target)) u at spot other
      (subst (λ (entries : List AirMessage). Sub entries (flat_map leading_from_air (spot_at w at).air ++ leading message first.target))
      (sym (flat_map-append leading_from_air (spot_at w at).air (record { message = message; target = first.target } ∷ []) ∙ ap (λ (entries : List AirMessage). flat_map leading_from_air (spot_at w at).air ++ entries) (append-nil (leading message first.target))))
      (sub_itself (flat_map leading_from_air (spot_at w at).air ++ leading message first.target)))

  now_there : outbox_of u station ≡ others
  now_there = ap (λ (link : Link). link.outbox) (changed_link w.links station (record (link_of w station) { outbox = others }) (up_right station w up).1)

  here : station ≡ c.station →
      (channel == c.number) ≡ true →
      Sub (going_down (with_spot at spot u) (place_of c)) (going_down w (place_of c))
  here same number =
      subst (λ (entries : List AirMessage). Sub (going_down (with_spot at spot u) (place_of c)) entries)
      (append_assoc (flat_map leading_from_air (spot_at w (place_of c)).air) (leading message first.target) (flat_map (leading_from_outbox c.number) others)
      ∙ ap (λ (entries : List AirMessage). flat_map leading_from_air (spot_at w (place_of c)).air ++ (entries ++ flat_map (leading_from_outbox c.number) others)) (sym (leads c.number number))
      ∙ ap (λ (entries : List OutboxEntry). flat_map leading_from_air (spot_at w (place_of c)).air ++ flat_map (leading_from_outbox c.number) entries) (sym pending ∙ ap (outbox_of w) same))
      (sub_append (in_air (place_of c)) (subst (λ (entries : List OutboxEntry). Sub (flat_map (leading_from_outbox c.number) entries) (flat_map (leading_from_outbox c.number) others)) (sym now_there ∙ ap (outbox_of u) same) (sub_itself (flat_map (leading_from_outbox c.number) others))))

  elsewhere : is_at at c ≡ false → Sub (going_down (with_spot at spot u) (place_of c)) (going_down w (place_of c))
  elsewhere other = subst (λ (x : Spot). Sub (flat_map leading_from_air x.air ++ flat_map (leading_from_outbox c.number) (outbox_of u c.station)) (going_down w (place_of c))) (sym (spot-elsewhere u at spot c (up_right station w up).0 c_is other)) (down_taken w station first others (place_of c) pending)

  by_both : (a b : Bool) →
      nat_eq station c.station ≡ a →
      nat_eq channel c.number ≡ b →
      Sub (going_down (with_spot at spot u) (place_of c)) (going_down w (place_of c))
  by_both true true one two = here (eqb-true station c.station one) two
  by_both false b one two = elsewhere (ap (λ (x : Bool). x && nat_eq channel c.number) one)
  by_both true false one two = elsewhere (ap (λ (x : Bool). x && nat_eq channel c.number) one ∙ two)

less_aired : {w : Actors} {s : Connection} (station channel : ℕ) (message : List ℕ) (first : OutboxEntry) (others : List OutboxEntry) → ArePlaced (used_channels s) → is_station_up w station ≡ true → outbox_of w station ≡ first ∷ others
    → ((n : ℕ) → (channel == n) ≡ true → leading_from_outbox n first ≡ leading message first.target)
    → SeesLess w (aired w station channel message first others) s
less_aired {w} {s} station channel message first others placed up pending leads = record {
  arriving = grown_spot w u at spot (used_channels s) taken_first.arriving;
  up = taken_first.up;
  serving = down_aired w station channel message first others s.serving placed_rest.0 up pending leads;
  target = λ t is. down_aired w station channel message first others t.channel (subst ArePlaced (target_in_is_so s.state t is) placed_rest.1).0 up pending leads;
  on_serving = tenure_with_spot u at spot (place_of s.serving) refl;
  on_target = λ t is. tenure_with_spot u at spot (place_of t.channel) refl;
  waiting = taken_first.waiting;
  taken = refl;
} where
  at : Place
  at = place_at station channel

  u : Actors
  u = with_outbox station others w

  spot : Spot
  spot = record (spot_at w at) { air = (spot_at w at).air ++ record { message = message; target = first.target } ∷ [] }

  taken_first : SeesLess w u s
  taken_first = less_taken station first others (up_right station w up).0 pending

  placed_rest : ArePlaced (s.serving ∷ target_in s.state)
  placed_rest = all_right (λ c. c.station ≢ SWITCH_LINK) (undone s.draining) (s.serving ∷ target_in s.state) placed

-- ---- a channel is released: its RF CHANNEL RELEASE ACK is the last of it

grown_released : (w u : Actors) (station channel : ℕ) (c : Channel) →
    c.station ≢ SWITCH_LINK →
    is_station_up w station ≡ true →
    SameEnds w u →
    u.inbox ≡ w.inbox →
    Grown (is_station_up w c.station) (coming_up (with_base station (after_release (base_of u station) channel) u) (place_of c)) (coming_up w (place_of c))
grown_released w u station channel c c_is up same inbox =
    elim (coming_told_or w u station (place_of c) (after_release (base_of u station) channel) (RfChannelReleaseAck channel ∷ []) c_is up same inbox (ap (λ (b : BaseState). b.messages ++ RfChannelReleaseAck channel ∷ []) (same station))) [
      | inl more ↦ by_both (nat_eq station c.station) (nat_eq channel c.number) refl more
      | inr is ↦ rests is
    ] where
      now : List Item
      now = coming_up (with_base station (after_release (base_of u station) channel) u) (place_of c)

      by_both : (a b : Bool) →
          nat_eq station c.station ≡ a →
          now ≡ coming_up w (place_of c) ++ (if a then (if b then release_ack ∷ [] else []) ++ [] else []) →
          Grown (is_station_up w c.station) now (coming_up w (place_of c))
      by_both true true one is = ends is (ap (is_station_up w) (sym (eqb-true station c.station one)) ∙ up)
      by_both true false one is = rests (is ∙ append-nil (coming_up w (place_of c)))
      by_both false b one is = rests (is ∙ append-nil (coming_up w (place_of c)))

less_released : {w u : Actors} {s : Connection} (station channel : ℕ) →
    ArePlaced (used_channels s) →
    is_station_up w station ≡ true →
    SameEnds w u →
    u.inbox ≡ w.inbox →
    SeesLess w u s →
    SeesLess w (released (place_at station channel) u) s
less_released {w} {u} {s} station channel placed up same inbox sees =
    less_same_tenure (place_at station channel) (record (spot_at u (place_at station channel)) { sapi_three_up = false; air = [] }) (sub_none _) (sym (ap (λ (x : Spot). x.tenure) (spot_with_base station (after_release (base_of u station) channel) u (place_at station channel)))) (record {
      arriving = all_both (λ c. c.station ≢ SWITCH_LINK) (λ c. c.station ≢ SWITCH_LINK) (λ c. Grown (is_station_up w c.station) (coming_up (with_base station (after_release (base_of u station) channel) u) (place_of c)) (coming_up w (place_of c))) (used_channels s)
          (λ c c_is _. grown_released w u station channel c c_is up same inbox) placed placed;
      up = sees.up;
      serving = subst (λ (entries : List AirMessage). Sub entries (going_down w (place_of s.serving))) (sym (down_with_base u station (after_release (base_of u station) channel) (place_of s.serving))) sees.serving;
      target = λ t is. subst (λ (entries : List AirMessage). Sub entries (going_down w (place_of t.channel))) (sym (down_with_base u station (after_release (base_of u station) channel) (place_of t.channel))) (sees.target t is);
      on_serving = tenure_with_base u station (after_release (base_of u station) channel) (place_of s.serving) ∙ sees.on_serving;
      on_target = λ t is. tenure_with_base u station (after_release (base_of u station) channel) (place_of t.channel) ∙ sees.on_target t is;
      waiting = sees.waiting;
      taken = sees.taken;
    })

-- ---- the data link of SAPI 3 is asked for

less_answered : {w u : Actors} {s : Connection} (answer : Bool) (station channel : ℕ) →
    ArePlaced (used_channels s) →
    is_station_up w station ≡ true →
    SameEnds w u →
    u.inbox ≡ w.inbox →
    SeesLess w u s →
    SeesLess w (answered answer (place_at station channel) u) s
less_answered {w} {u} {s} answer station channel placed up same inbox sees =
    let spot : Spot = record (spot_at u (place_at station channel)) { sapi_three_up = answer } in
    less_told station (after_tell (base_of (with_spot (place_at station channel) spot u) station) (link_answer answer channel)) (link_answer answer channel ∷ []) placed up (λ k. base_with_spot (place_at station channel) spot u k ∙ same k) inbox
    (ap (λ (b : BaseState). b.messages ++ link_answer answer channel ∷ []) (base_with_spot (place_at station channel) spot u station ∙ same station)) (λ k. none answer k)
    (less_same_tenure (place_at station channel) spot (sub_itself _) refl sees) where
      none : (b : Bool) (k : ℕ) → made_of k (link_answer b channel ∷ []) ≡ []
      none true k = refl
      none false k = refl

-- ---- each entry

keeps : {m : ℕ} {w v : Actors} {mobile : ℕ} {s : Connection} →
    AreLinedUp m w mobile s →
    v.mobiles ≡ w.mobiles →
    SeesLess w v s →
    AreLinedUp m v mobile s
keeps {mobile} lined same sees = record { one = lined.one; found = ap (λ (ms : List Mobile). find (has_number mobile) ms) same ∙ lined.found; lined = lined_up_less lined.one sees lined.lined }

none_asking : {w : Actors} {serving : Channel} {target : Option Target} → Sits w serving target Asking → ⊥
none_asking sits = elim sits [ ]

-- a mobile that asks is none that is lined up
seats_other : {m : ℕ} {u : Actors} {mobile : ℕ} {s : Connection} (q : Mobile) (number : ℕ) (tenure : Tenure) →
    AreLinedUp m u mobile s →
    mobile_of u number ≡ Some q →
    q.seat ≡ Asking →
    AreLinedUp m (with_mobile (record q { seat = On tenure None }) u) mobile s
seats_other {m} {u} {mobile} {s} q number tenure lined acts asking = by_number (nat_eq number mobile) refl where
  by_number : (b : Bool) → nat_eq number mobile ≡ b → AreLinedUp m (with_mobile (record q { seat = On tenure None }) u) mobile s
  by_number true is =
      let one : q ≡ lined.one = same_Some _ _ (sym acts ∙ ap (mobile_of u) (eqb-true number mobile is) ∙ lined.found) in
      absurd (none_asking (subst (Sits u s.serving (commanded_target s.state)) (ap (λ (p : Mobile). p.seat) (sym one) ∙ asking) lined.lined.sits))
  by_number false is = record {
    one = lined.one;
    found = back_other (record q { seat = On tenure None }) u.mobiles mobile (λ same. eqb-false number mobile is (sym (number_found number u.mobiles q acts) ∙ same)) ∙ lined.found;
    lined = lined_up_same lined.one lined.one (sees_mobiles _ (sees_itself u s)) refl refl refl lined.lined;
  }

took_keeps : {m : ℕ} {w : Actors} {mobile : ℕ} {s : Connection} (station : ℕ) (first : OutboxEntry) (others : List OutboxEntry) → AreActiveAt station w s → AreLinedUp m w mobile s → is_station_up w station ≡ true → outbox_of w station ≡ first ∷ others
    → OfTaken (λ v. AreLinedUp m v mobile s) (took station first.target (rsl_in first.out.frame) (with_outbox station others w))
unfolding OfTaken Seats
took_keeps {m} {w} {mobile} {s} station first others active lined up pending = by_message (rsl_in first.out.frame) refl where
  u : Actors
  u = with_outbox station others w

  P : Actors → Type 0
  P v = AreLinedUp m v mobile s

  placed : ArePlaced (used_channels s)
  placed = lined.lined.placed

  taken_first : SeesLess w u s
  taken_first = less_taken station first others (up_right station w up).0 pending

  unchanged : P u
  unchanged = keeps lined refl taken_first

  activating : (channel : ℕ) (o : Option LinkFault) →
      refusal_of_activate (base_of u station) channel ≡ o →
      P (activated_unless o (place_at station channel) u)
  activating channel None is = keeps lined refl (less_activated station channel placed up (λ k. refl) refl is active taken_first)
  activating channel (Some fault) is = unchanged

  airing : (d_channel : ℕ) (message : List ℕ) → ((n : ℕ) → (d_channel == n) ≡ true → leading_from_outbox n first ≡ leading message first.target) → (b : Bool)
      → P (if b then with_spot (place_at station d_channel) (record (spot_at u (place_at station d_channel)) { air = (spot_at u (place_at station d_channel)).air ++ record { message = message; target = first.target } ∷ [] }) u else u)
  airing channel message leads true = keeps lined refl (less_aired station channel message first others placed up pending leads)
  airing channel message leads false = unchanged

  by_message : (o : Option Rsl) → rsl_in first.out.frame ≡ o → OfTaken P (took station first.target o u)
  by_message (Some (ChannelActivation a)) is = unless_last_leads P ((spot_at u (place_at station a.channel)).tenure == MAX_TENURE) (activated (place_at station a.channel) u) (activating a.channel (refusal_of_activate (base_of u station) a.channel) refl)
  by_message (Some (ImmediateAssignCommand i)) is = assigned-leads P station u (rr_reading i.information) unchanged (λ q number channel acts asking. seats_other q number (tenure_at u (place_at station channel)) unchanged acts asking)
  by_message (Some (DataRequest d)) is = airing d.channel d.l3
      (λ n same. ap (leading_by n first.target) is ∙ ap (λ (b : Bool). cond b (leading d.l3 first.target) []) same) (is_active_at u (place_at station d.channel))
  by_message (Some (EstablishRequest l)) is = keeps lined refl (less_answered (is_active_at u (place_at station l.channel) && accepts (mobile_on u (tenure_at u (place_at station l.channel)))) station l.channel placed up (λ k. refl) refl taken_first)
  by_message (Some (RfChannelRelease channel)) is = keeps lined refl (less_released station channel placed up (λ k. refl) refl taken_first)
  by_message _ is = unchanged

pub stations_keep_line_ups_new : (settings : Parameters) (events : List Event) (station : ℕ) → StationsKeepLineUps settings events station
unfolding event_after
stations_keep_line_ups_new settings events station mobile s active lined =
    let w : Actors = world settings events in
    after_taken (λ v. AreLinedUp _ v mobile s) (after_base_takes w station) w (base_takes_leads (λ v. AreLinedUp _ v mobile s) w station (λ first others up pending. took_keeps station first others active lined up pending)) lined
