-- SPDX-License-Identifier: MIT OR Apache-2.0
-- A world whose switch's link broke, beside the same world with the link still up: their equal
-- parts, and the outputs of the controller in both.
use Rattle.std.proofs.Common.{◌≡◌, ◌≢◌, ℕ, ◌==◌, ◌&&◌, not, nat_eq, Bool, true, false, if◌then◌else◌, List, [], ◌∷◌, ◌++◌}
use Rattle.std.proofs.Common.{fold, Option, Some, refl, sym, ap, ◌∙◌, subst, inl, inr, eqb-true}
use Rattle.std.proofs.Common.{get_or, get_or-set_other, set, set-set}
use Rattle.std.proofs.lemmas.Bool.{cases_Bool, eqb-false}
use Rattle.std.proofs.lemmas.List.{set_comm}
use Rattle.conn_messages.specs.declared.out.Out.{Out}
use Rattle.conn_messages.specs.declared.parameters.TheConstants.{SWITCH_LINK}
use Rattle.controller_model.specs.Controller.{Turn}
use Rattle.rsl_codec.specs.declared.rsl.Rsl.{Rsl}
use Rattle.rsl_codec.specs.declared.rsl.Rsl.TheVariants.{ChannelActivationAck}
use Rattle.ruled_relay.specs.declared.item.Item.{Item}
use Rattle.ruled_relay.specs.declared.item.What.{What}
use Rattle.ruled_relay.specs.declared.item.What.TheVariants as whats
use Rattle.world_model.specs.declared.line.OutboxEntry.{OutboxEntry}
use Rattle.world_model.specs.declared.seat.Tenure.{Tenure}
use Rattle.world_model.specs.Relay.{acknowledged_tenure, entry_of, joined_by, target_in, with_turn}
use Rattle.world_model.specs.Stations.{rsl_in}
use Rattle.world_model.specs.World.{Actors, Link, broken_link, is_active_at, is_reached, is_station_up, is_up, link_of}
use Rattle.world_model.specs.World.{outbox_of, spot_at, with_link, with_outbox}

-- what the break of the switch's link puts behind the inbox
abbrev pub switch_down : Item
switch_down = record { source = SWITCH_LINK; what = whats.Down }

-- these actors with another inbox, once the switch's link broke
abbrev pub held : List Item → Actors → Actors
held items w = record w {
  switch_made = [];
  inbox = items;
  links = set w.links SWITCH_LINK broken_link;
}

-- ---- links

-- those of stations are as before
pub held_other : (items : List Item) (w : Actors) (n : ℕ) → n ≢ SWITCH_LINK → link_of (held items w) n ≡ link_of w n
held_other items w n differs = get_or-set_other w.links SWITCH_LINK n broken_link broken_link differs

-- the switch's is down, and has nothing
broken_there : (links : List Link) → get_or (set links SWITCH_LINK broken_link) SWITCH_LINK broken_link ≡ broken_link
broken_there [] = refl
broken_there (link ∷ links) = refl

held_link : (items : List Item) (w : Actors) → link_of (held items w) SWITCH_LINK ≡ broken_link
held_link items w = broken_there w.links

pub held_down : (items : List Item) (w : Actors) → is_up (held items w) SWITCH_LINK ≡ false
held_down items w = ap (λ (l : Link). l.up) (held_link items w)

pub held_empty : (items : List Item) (w : Actors) → outbox_of (held items w) SWITCH_LINK ≡ []
held_empty items w = ap (λ (l : Link). l.outbox) (held_link items w)

pub held_station_up : (items : List Item) (w : Actors) (n : ℕ) → is_station_up (held items w) n ≡ is_station_up w n
held_station_up items w n =
    elim (cases_Bool (n == SWITCH_LINK)) [
      | inl is ↦ ap (λ (b : Bool). not b && is_up (held items w) n) is ∙ sym (ap (λ (b : Bool). not b && is_up w n) is)
      | inr differs ↦ ap (λ (l : Link). not (n == SWITCH_LINK) && l.up) (held_other items w n (eqb-false n SWITCH_LINK differs))
    ]

pub held_reached : (items : List Item) (w : Actors) (t : Tenure) → is_reached (held items w) t ≡ is_reached w t
held_reached items w t = ap (λ (b : Bool). b && is_active_at w t.at && ((spot_at w t.at).tenure == t.number)) (held_station_up items w t.at.station)

with_link_held : (items : List Item) (w : Actors) (n : ℕ) (link : Link) → n ≢ SWITCH_LINK
    → with_link n link (held items w) ≡ held items (with_link n link w)
with_link_held items w n link differs =
    ap (λ (links : List Link). record (held items w) { links = links }) (set_comm w.links SWITCH_LINK n broken_link link (λ is. differs (sym is)))

pub with_outbox_held : (items : List Item) (w : Actors) (n : ℕ) (entries : List OutboxEntry) → n ≢ SWITCH_LINK
    → with_outbox n entries (held items w) ≡ held items (with_outbox n entries w)
with_outbox_held items w n entries differs =
    ap (λ (link : Link). with_link n (record link { outbox = entries }) (held items w)) (held_other items w n differs)
    ∙ with_link_held items w n (record (link_of w n) { outbox = entries }) differs

-- ---- what the controller puts

-- an entry for a link of this number
abbrev joined_at : Actors → ℕ → OutboxEntry → Actors
joined_at w n entry = if is_up w n then with_outbox n (outbox_of w n ++ entry ∷ []) w else w

own_held : (items : List Item) (w : Actors) (entry : OutboxEntry)
    → joined_at (held items w) SWITCH_LINK entry ≡ held items (joined_at w SWITCH_LINK entry)
own_held items w entry =
    ap (λ (b : Bool). if b then with_outbox SWITCH_LINK (outbox_of (held items w) SWITCH_LINK ++ entry ∷ []) (held items w) else held items w) (held_down items w)
    ∙ sym (by (is_up w SWITCH_LINK)) where
      by : (b : Bool) → held items (if b then with_outbox SWITCH_LINK (outbox_of w SWITCH_LINK ++ entry ∷ []) w else w) ≡ held items w
      by true =
          ap (λ (links : List Link). record (held items w) { links = links })
          (set-set w.links SWITCH_LINK (record (link_of w SWITCH_LINK) { outbox = outbox_of w SWITCH_LINK ++ entry ∷ [] }) broken_link)
      by false = refl

other_held : (items : List Item) (w : Actors) (n : ℕ) (entry : OutboxEntry) → n ≢ SWITCH_LINK
    → joined_at (held items w) n entry ≡ held items (joined_at w n entry)
other_held items w n entry differs =
    ap (λ (l : Link). if l.up then with_link n (record l { outbox = l.outbox ++ entry ∷ [] }) (held items w) else held items w) (held_other items w n differs)
    ∙ by (is_up w n) where
      by : (b : Bool)
          → (if b then with_link n (record (link_of w n) { outbox = outbox_of w n ++ entry ∷ [] }) (held items w) else held items w) ≡ held items (if b then with_outbox n (outbox_of w n ++ entry ∷ []) w else w)
      by true = with_link_held items w n (record (link_of w n) { outbox = outbox_of w n ++ entry ∷ [] }) differs
      by false = refl

joined_held : (items : List Item) (target : Option Tenure) (w : Actors) (out : Out)
    → joined_by target (held items w) out ≡ held items (joined_by target w out)
joined_held items target w out =
    elim (cases_Bool (nat_eq out.to SWITCH_LINK)) [
      | inl same ↦ subst (λ (n : ℕ). joined_at (held items w) n (entry_of target out) ≡ held items (joined_at w n (entry_of target out))) (sym (eqb-true out.to SWITCH_LINK same)) (own_held items w (entry_of target out))
      | inr other ↦ other_held items w out.to (entry_of target out) (eqb-false out.to SWITCH_LINK other)
    ]

all_joined_held : (items : List Item) (target : Option Tenure) (w : Actors) (outs : List Out)
    → fold (joined_by target) (held items w) outs ≡ held items (fold (joined_by target) w outs)
all_joined_held items target w [] = refl
all_joined_held items target w (out ∷ outs) =
    ap (λ (v : Actors). fold (joined_by target) v outs) (joined_held items target w out)
    ∙ all_joined_held items target (joined_by target w out) outs

pub turn_held : (items : List Item) (target : Option Tenure) (t : Turn) (w : Actors)
    → with_turn target t (held items w) ≡ held items (with_turn target t w)
turn_held items target t w = all_joined_held items target (record w { controller = t.next }) t.outs

acknowledged_held : (items : List Item) (w : Actors) (n : ℕ) (message : Option Rsl)
    → acknowledged_tenure (held items w) n message ≡ acknowledged_tenure w n message
acknowledged_held items w n (Some (ChannelActivationAck a)) = refl
acknowledged_held items w n _ = refl

pub target_held : (items : List Item) (w : Actors) (n : ℕ) (what : What) → target_in (held items w) n what ≡ target_in w n what
target_held items w n (whats.Frame frame) = acknowledged_held items w n (rsl_in frame)
target_held items w n whats.Down = refl
