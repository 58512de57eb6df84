-- SPDX-License-Identifier: MIT OR Apache-2.0
-- Messages beside the flow may drop out of a line-up.
use Rattle.world_laws.proofs.Prelude.{◌≡◌, ℕ, ◌+◌, ◌≤◌, ◌&&◌, not, Bool, true, false, if◌then◌else◌, List, [], ◌∷◌, ◌++◌, length, Some}
use Rattle.world_laws.proofs.Prelude.{None, refl, sym, ap, ◌∙◌, subst, append_assoc, arith, AllByRecursion, flat_map, Channel, Place, Drain}
use Rattle.world_laws.proofs.Prelude.{Changing, State, Live, Connection, undone, used_channels, place_of, is_flow_message, Held, RelayItem}
use Rattle.world_laws.proofs.Prelude.{Actors, Mobile, base_of, is_station_up, AllByRecursion-so, ended, controls_in, controls_of, flow}
use Rattle.world_laws.proofs.Prelude.{messages_in, released, brings_in, coming_up, made_of, going_down, commanded_target, draining_tenure}
use Rattle.world_laws.proofs.Prelude.{is_ended, old_tenure, old_tenures, remembered, seat_from, serving_hold, serving_tenure, taken_of}
use Rattle.world_laws.proofs.Prelude.{target_tenure, waiting_of, Leads, LinedUp}
use Rattle.conn_rules.specs.Streams.{target_in}
use Rattle.world_laws.specs.LineUp.Places.{Item, Seat}
use Rattle.world_laws.specs.LineUp.Places.Item.{brought}
use Rattle.world_laws.proofs.LineUp.Lines.{controls_append, flow-apart, messages_in-append}
use Rattle.world_laws.proofs.Cutting.{AllCut, alive_cut, Cuts, cuts_itself}
use Rattle.world_laws.proofs.Cutting.Cuts.{whole}
use Rattle.world_laws.proofs.Framing.{all_left, all_right}
use Rattle.world_laws.proofs.Seeing.{leads_same, SameTenures, sits_same, none_same}
use Rattle.world_laws.proofs.Breaks.{target_came}

-- ---- lists

-- it isn't of the flow, and no end
abbrev pub IsBeside : Item → Type 0
IsBeside (brought message) = is_flow_message message ≡ false
IsBeside released = ⊥

abbrev pub AreBeside : List Item → Type 0
AreBeside items = AllByRecursion IsBeside items

-- what is behind such items has the same flow, no more controls, and the same end
flow-behind : (front items : List Item) → AreBeside front → flow (messages_in (front ++ items)) ≡ flow (messages_in items)
flow-behind [] items beside = refl
flow-behind (brought message ∷ front) items beside = flow-apart message (messages_in (front ++ items)) beside.0 ∙ flow-behind front items beside.1
flow-behind (released ∷ front) items beside = absurd beside.0

fewer_controls : (front items : List Item) → controls_in items ≤ controls_in (front ++ items)
fewer_controls front items =
    let all = ap controls_of (messages_in-append front items) in
    let sum = controls_append (messages_in front) (messages_in items) in
    omega arith

ended_behind : (front items : List Item) → AreBeside front → is_ended (front ++ items) ≡ is_ended items
ended_behind [] items beside = refl
ended_behind (brought message ∷ front) items beside = ended_behind front items beside.1
ended_behind (released ∷ front) items beside = absurd beside.0

-- ---- tenures

-- what is on its way up from a channel, before such items are taken from it and after it
record Loses (f g : Place → List Item) (c : Channel) : Type 0 where
  front : List Item
  is : f (place_of c) ≡ front ++ g (place_of c)
  beside : AreBeside front

draining_cut : (up : Bool) (front items : List Item) (hold : List (List ℕ)) →
    AreBeside front →
    Cuts (draining_tenure up (front ++ items) hold) (draining_tenure up items hold)
draining_cut up front items hold beside = whole refl (sym (flow-behind front items beside)) (fewer_controls front items) (ap (λ (b : Bool). not up && not b) (sym (ended_behind front items beside)))

one_cut : (f g : Place → List Item) (up : ℕ → Bool) (d : Drain) (ds : List Drain) (hold : List (List ℕ)) →
    AllByRecursion (Loses f g) (undone (d ∷ ds)) →
    Cuts (old_tenure f up d hold) (old_tenure g up d hold) × AllByRecursion (Loses f g) (undone ds)
one_cut f g up d ds hold all = by d.is_done all where
  by : (b : Bool) → AllByRecursion (Loses f g) (if b then undone ds else d.channel ∷ undone ds)
      → Cuts (if b then ended hold else draining_tenure (up d.channel.station) (f (place_of d.channel)) hold) (if b then ended hold else draining_tenure (up d.channel.station) (g (place_of d.channel)) hold) × AllByRecursion (Loses f g) (undone ds)
  by true all = (cuts_itself (ended hold), all)
  by false all = (
    subst (λ (items : List Item). Cuts (draining_tenure (up d.channel.station) items hold) (draining_tenure (up d.channel.station) (g (place_of d.channel)) hold)) (sym all.0.is)
        (draining_cut (up d.channel.station) all.0.front (g (place_of d.channel)) hold all.0.beside),
    all.1,
  )

old_cut : (f g : Place → List Item) (up : ℕ → Bool) (ds : List Drain) (holds : List Held) →
    AllByRecursion (Loses f g) (undone ds) →
    AllCut (old_tenures f up ds holds) (old_tenures g up ds holds)
old_cut f g up [] holds all = tt
old_cut f g up (d ∷ ds) [] all = let one = one_cut f g up d ds [] all in (one.0, old_cut f g up ds [] one.1)
old_cut f g up (d ∷ ds) (held ∷ others) all = let one = one_cut f g up d ds held.zero all in (one.0, old_cut f g up ds others one.1)

serving_cut : (f g : Place → List Item) (up : ℕ → Bool) (c : Channel) (hold : List (List ℕ)) →
    Loses f g c →
    Cuts (serving_tenure f up c hold) (serving_tenure g up c hold)
serving_cut f g up c hold loses =
    subst (λ (items : List Item). Cuts (record (serving_tenure f up c hold) { items = items }) (serving_tenure g up c hold)) (sym loses.is)
    (whole refl (sym (flow-behind loses.front (g (place_of c)) loses.beside)) (fewer_controls loses.front (g (place_of c))) refl)

target_cut : (f g : Place → List Item) (up : ℕ → Bool) (seat : Seat) (state : State) →
    AllByRecursion (Loses f g) (target_in state) →
    Cuts (target_tenure f up seat (commanded_target state)) (target_tenure g up seat (commanded_target state))
target_cut f g up seat (Live reference (Changing target)) all =
    subst (λ (items : List Item). Cuts (record (target_tenure f up seat (Some target)) { items = items }) (target_tenure g up seat (Some target))) (sym all.0.is)
    (whole refl (sym (flow-behind all.0.front (g (place_of target.channel)) all.0.beside)) (fewer_controls all.0.front (g (place_of target.channel))) refl)
target_cut f g up seat _ all = cuts_itself (target_tenure f up seat None)

-- ---- the first item of the inbox is taken

abbrev pub without_first : Actors → List RelayItem → Actors
without_first w items = record w { inbox = items }

-- what it brings is first
pub coming_first : (w : Actors) (item : RelayItem) (items : List RelayItem) →
    w.inbox ≡ item ∷ items →
    (at : Place) →
    coming_up w at ≡ brings_in at item ++ coming_up (without_first w items) at
coming_first w item items pending at =
    ap (λ (xs : List RelayItem). flat_map (brings_in at) xs ++ made_of at.number (base_of w at.station).messages) pending
    ∙ append_assoc (brings_in at item) (flat_map (brings_in at) items) (made_of at.number (base_of w at.station).messages)

loses_of : (w : Actors) (item : RelayItem) (items : List RelayItem) →
    w.inbox ≡ item ∷ items →
    (channel : Channel) →
    AreBeside (brings_in (place_of channel) item) →
    Loses (coming_up w) (coming_up (without_first w items)) channel
loses_of w item items pending channel beside = record { front = brings_in (place_of channel) item; is = coming_first w item items pending (place_of channel); beside = beside }

-- it brings nothing of the flow on the channels of a connection, which remains lined up
pub item_drops : {m : ℕ} {w : Actors} {p : Mobile} {s : Connection} (item : RelayItem) (items : List RelayItem) →
    w.inbox ≡ item ∷ items →
    AllByRecursion (λ channel. AreBeside (brings_in (place_of channel) item)) (used_channels s) →
    LinedUp m w p s →
    LinedUp m (without_first w items) p s
unfolding SameTenures
item_drops {m} {w} {p} {s} item items pending beside lined = record {
  alive = alive_cut p.end.sent p.end.zero (seat_from s.serving p.seat) s.state (length (going_down w (place_of s.serving)) + remembered p.seat) (length (going_down w (place_of s.serving)) + remembered p.seat)
      (old_tenures (coming_up w) (is_station_up w) s.draining s.up.tenures) (old_tenures (coming_up v) (is_station_up w) s.draining s.up.tenures)
      (serving_tenure (coming_up w) (is_station_up w) s.serving (serving_hold s.draining s.up.tenures)) (serving_tenure (coming_up v) (is_station_up w) s.serving (serving_hold s.draining s.up.tenures))
      (target_tenure (coming_up w) (is_station_up w) (seat_from s.serving p.seat) (commanded_target s.state)) (target_tenure (coming_up v) (is_station_up w) (seat_from s.serving p.seat) (commanded_target s.state))
      (flow (waiting_of w s.number)) (flow (taken_of w s.number)) (omega arith)
      (old_cut (coming_up w) (coming_up v) (is_station_up w) s.draining s.up.tenures (all_left (Loses (coming_up w) (coming_up v)) (undone s.draining) (s.serving ∷ target_in s.state) loses))
      (serving_cut (coming_up w) (coming_up v) (is_station_up w) s.serving (serving_hold s.draining s.up.tenures) behind.0)
      (target_cut (coming_up w) (coming_up v) (is_station_up w) (seat_from s.serving p.seat) s.state behind.1)
      (target_came (coming_up v) (is_station_up w) (seat_from s.serving p.seat) (commanded_target s.state)) lined.alive;
  sits = sits_same same lined.sits;
  led = AllByRecursion-so (λ a. Leads w a (commanded_target s.state)) (λ a. Leads v a (commanded_target s.state)) (λ a. leads_same same) (going_down w (place_of s.serving)) lined.led;
  none_on_target = none_same w v (commanded_target s.state) (λ t is. refl) lined.none_on_target;
  apart = lined.apart;
  placed = lined.placed;
} where
  v : Actors
  v = without_first w items

  same : SameTenures w v
  same at = refl

  loses : AllByRecursion (Loses (coming_up w) (coming_up v)) (used_channels s)
  loses = AllByRecursion-so (λ channel. AreBeside (brings_in (place_of channel) item)) (Loses (coming_up w) (coming_up v)) (loses_of w item items pending) (used_channels s) beside

  behind : AllByRecursion (Loses (coming_up w) (coming_up v)) (s.serving ∷ target_in s.state)
  behind = all_right (Loses (coming_up w) (coming_up v)) (undone s.draining) (s.serving ∷ target_in s.state) loses
