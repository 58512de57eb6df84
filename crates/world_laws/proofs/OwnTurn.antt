-- SPDX-License-Identifier: MIT OR Apache-2.0
-- What the controller puts in a turn, as it stands in the outboxes afterwards.
use Rattle.world_laws.proofs.Prelude.{◌≡◌, ℕ, ◌==◌, ◌&&◌, not, Bool, true, false, if◌then◌else◌, cond, List, [], ◌∷◌, ◌++◌, fold, map}
use Rattle.world_laws.proofs.Prelude.{Option, Some, None, refl, sym, ap, ◌∙◌, subst, append_assoc, inl, inr, flat_map, cases_Bool, eqb-true}
use Rattle.world_laws.proofs.Prelude.{eqb-false, flat_map-append, append-nil, map-append, Channel, Out, SWITCH_LINK, Forwarded, place_of}
use Rattle.world_laws.proofs.Prelude.{forwarded_by, Rsl, DataRequest, AirMessage, OutboxEntry, Tenure, joined_by, rsl_in, Actors, Link}
use Rattle.world_laws.proofs.Prelude.{broken_link, link_of, is_up, is_station_up, outbox_of, with_outbox, spot_at, changed_link}
use Rattle.world_laws.proofs.Prelude.{sccp_reading, leading, leading_by, leading_from_air, leading_from_outbox, going_down, waiting_of}
use Rattle.world_laws.proofs.Prelude.{entry_out}
use Rattle.controller_model.specs.Views.{forwarded}
use Rattle.world_model.specs.Relay.{entry_of}
use Rattle.world_laws.proofs.Framing.{AreUp}
use Rattle.world_laws.proofs.Others.{forwarded-append, down_joined}
use Rattle.world_laws.proofs.Spots.{set-same, set-apart}
use Rattle.world_laws.proofs.SwitchTakes.{forwarded-first}

-- ---- the links are up as before

link_up : (target : Option Tenure) (u : Actors) (out : Out) (n : ℕ) → is_up (joined_by target u out) n ≡ is_up u n
link_up target u out n = by (is_up u out.to) where
  by : (b : Bool) → is_up (if b then with_outbox out.to (outbox_of u out.to ++ entry_of target out ∷ []) u else u) n ≡ is_up u n
  by true = set-same (λ (link : Link). link.up) u.links broken_link out.to n (record (link_of u out.to) { outbox = outbox_of u out.to ++ entry_of target out ∷ [] }) refl
  by false = refl

pub turn_up : (target : Option Tenure) (outs : List Out) (u : Actors) (n : ℕ) → is_up (fold (joined_by target) u outs) n ≡ is_up u n
turn_up target [] u n = refl
turn_up target (out ∷ outs) u n = turn_up target outs (joined_by target u out) n ∙ link_up target u out n

pub turn_stations : (target : Option Tenure) (outs : List Out) (u : Actors) →
    AreUp (is_station_up (fold (joined_by target) u outs)) (is_station_up u)
turn_stations target outs u n = ap (λ (b : Bool). not (n == SWITCH_LINK) && b) (turn_up target outs u n)

-- ---- what waits for the switch

abbrev pub messages_of : List Forwarded → List (List ℕ)
messages_of fs = map (λ f. f.message) fs

-- only what is put for the switch is forwarded
forwards_none : (out : Out) (number : ℕ) → (out.to == SWITCH_LINK) ≡ false → forwarded (out ∷ []) number ≡ []
unfolding forwarded
forwards_none out number other = by (out.conn == number) (out.to == SWITCH_LINK) other where
  by : (a b : Bool) → b ≡ false → flat_map (λ (o : Out). forwarded_by (sccp_reading o.frame.body)) (cond (a && b) (out ∷ []) []) ≡ []
  by true false other = refl
  by false false other = refl
  by a true other = absurd cc

joined_waiting : (target : Option Tenure) (u : Actors) (out : Out) (number : ℕ) →
    is_up u SWITCH_LINK ≡ true →
    waiting_of (joined_by target u out) number ≡ waiting_of u number ++ messages_of (forwarded (out ∷ []) number)
joined_waiting target u out number up = elim (cases_Bool (out.to == SWITCH_LINK)) [
  | inl here ↦ to_switch out.to (eqb-true out.to SWITCH_LINK here)
  | inr other ↦ by (is_up u out.to) other ∙ sym (append-nil (waiting_of u number)) ∙ ap (λ (fs : List Forwarded). waiting_of u number ++ messages_of fs) (sym (forwards_none out number other))
] where
  entries : List OutboxEntry
  entries = outbox_of u SWITCH_LINK

  with_entry : List OutboxEntry
  with_entry = entries ++ entry_of target out ∷ []

  read_as : map (λ (entry : OutboxEntry). entry.out) with_entry ≡ map (λ (entry : OutboxEntry). entry.out) entries ++ out ∷ []
  read_as = map-append (λ (entry : OutboxEntry). entry.out) entries (entry_of target out ∷ []) ∙ ap (λ (o : Out). map (λ (entry : OutboxEntry). entry.out) entries ++ o ∷ []) (entry_out target out)

  joins : messages_of (forwarded (map (λ (entry : OutboxEntry). entry.out) with_entry) number) ≡ waiting_of u number ++ messages_of (forwarded (out ∷ []) number)
  joins = ap (λ (outs : List Out). messages_of (forwarded outs number)) read_as ∙ ap messages_of (forwarded-append (map (λ (entry : OutboxEntry). entry.out) entries) (out ∷ []) number)
      ∙ map-append (λ (f : Forwarded). f.message) (forwarded (map (λ (entry : OutboxEntry). entry.out) entries) number) (forwarded (out ∷ []) number)

  to_switch : (n : ℕ) →
      n ≡ SWITCH_LINK →
      waiting_of (if is_up u n then with_outbox n (outbox_of u n ++ entry_of target out ∷ []) u else u) number ≡ waiting_of u number ++ messages_of (forwarded (out ∷ []) number)
  to_switch n is = subst (λ (k : ℕ). waiting_of (if is_up u k then with_outbox k (outbox_of u k ++ entry_of target out ∷ []) u else u) number ≡ waiting_of u number ++ messages_of (forwarded (out ∷ []) number)) (sym is)
      (ap (λ (b : Bool). waiting_of (if b then with_outbox SWITCH_LINK with_entry u else u) number) up
      ∙ ap (λ (link : Link). messages_of (forwarded (map (λ entry. entry.out) link.outbox) number)) (changed_link u.links SWITCH_LINK (record (link_of u SWITCH_LINK) { outbox = with_entry }) up) ∙ joins)

  by : (b : Bool) →
      (out.to == SWITCH_LINK) ≡ false →
      waiting_of (if b then with_outbox out.to (outbox_of u out.to ++ entry_of target out ∷ []) u else u) number ≡ waiting_of u number
  by false other = refl
  by true other = ap (λ (link : Link). messages_of (forwarded (map (λ entry. entry.out) link.outbox) number)) (set-apart u.links broken_link out.to SWITCH_LINK (record (link_of u out.to) { outbox = outbox_of u out.to ++ entry_of target out ∷ [] }) (λ is. eqb-false out.to SWITCH_LINK other (sym is)))

-- what is forwarded of the outputs joins it
pub turn_waiting : (target : Option Tenure) (outs : List Out) (u : Actors) (number : ℕ) →
    is_up u SWITCH_LINK ≡ true →
    waiting_of (fold (joined_by target) u outs) number ≡ waiting_of u number ++ messages_of (forwarded outs number)
unfolding forwarded
turn_waiting target [] u number up = sym (append-nil (waiting_of u number))
turn_waiting target (out ∷ outs) u number up =
    turn_waiting target outs (joined_by target u out) number (link_up target u out SWITCH_LINK ∙ up)
    ∙ ap (λ (ms : List (List ℕ)). ms ++ messages_of (forwarded outs number)) (joined_waiting target u out number up)
    ∙ append_assoc (waiting_of u number) (messages_of (forwarded (out ∷ []) number)) (messages_of (forwarded outs number))
    ∙ ap (λ (ms : List (List ℕ)). waiting_of u number ++ ms) (sym (map-append (λ (f : Forwarded). f.message) (forwarded (out ∷ []) number) (forwarded outs number)) ∙ ap messages_of (sym (forwarded-first out outs number)))

-- ---- the commands

-- an output without a target leads nowhere
pub none_leads : (channel : ℕ) (out : Out) → leading_from_outbox channel (entry_of None out) ≡ []
none_leads channel out = by (rsl_in out.frame) where
  by : (o : Option Rsl) → leading_by channel None o ≡ []
  by (Some (DataRequest d)) = either (d.channel == channel) where
    either : (b : Bool) → (if b then leading d.l3 None else []) ≡ []
    either true = refl
    either false = refl
  by _ = refl

pub turn_down : (outs : List Out) (u : Actors) (c : Channel) →
    going_down (fold (joined_by None) u outs) (place_of c) ≡ going_down u (place_of c)
turn_down [] u c = refl
turn_down (out ∷ outs) u c = turn_down outs (joined_by None u out) c ∙ by (is_up u out.to) where
  by : (b : Bool) →
      going_down (if b then with_outbox out.to (outbox_of u out.to ++ entry_of None out ∷ []) u else u) (place_of c) ≡ going_down u (place_of c)
  by true = down_joined u None out c (λ is. none_leads c.number out)
  by false = refl

-- one output, with a target: on its channel it is behind what was there, where its link is up
pub commanded_down : (target : Option Tenure) (u : Actors) (out : Out) (c : Channel) (new : List AirMessage) → out.to ≡ c.station → leading_from_outbox c.number (entry_of target out) ≡ new
    → (more : List AirMessage) × (going_down (joined_by target u out) (place_of c) ≡ going_down u (place_of c) ++ more) × ((P : List AirMessage → Type 0) → P [] → P new → P more)
commanded_down target u out c new to is = by (is_up u out.to) refl where
  by : (b : Bool) →
      is_up u out.to ≡ b →
      (more : List AirMessage) × (going_down (if b then with_outbox out.to (outbox_of u out.to ++ entry_of target out ∷ []) u else u) (place_of c) ≡ going_down u (place_of c) ++ more) × ((P : List AirMessage → Type 0) → P [] → P new → P more)
  by false up = ([], sym (append-nil (going_down u (place_of c))), λ P none some. none)
  by true up = (new, there, λ P none some. some) where
    behind : flat_map (leading_from_outbox c.number) (outbox_of (with_outbox out.to (outbox_of u out.to ++ entry_of target out ∷ []) u) c.station) ≡ flat_map (leading_from_outbox c.number) (outbox_of u c.station) ++ new
    behind = subst (λ (n : ℕ). flat_map (leading_from_outbox c.number) (outbox_of (with_outbox out.to (outbox_of u out.to ++ entry_of target out ∷ []) u) n) ≡ flat_map (leading_from_outbox c.number) (outbox_of u n) ++ new) to
        (ap (λ (link : Link). flat_map (leading_from_outbox c.number) link.outbox) (changed_link u.links out.to (record (link_of u out.to) { outbox = outbox_of u out.to ++ entry_of target out ∷ [] }) up)
        ∙ flat_map-append (leading_from_outbox c.number) (outbox_of u out.to) (entry_of target out ∷ [])
        ∙ ap (λ (as_led : List AirMessage). flat_map (leading_from_outbox c.number) (outbox_of u out.to) ++ as_led) (append-nil (leading_from_outbox c.number (entry_of target out)) ∙ is))

    there : going_down (with_outbox out.to (outbox_of u out.to ++ entry_of target out ∷ []) u) (place_of c) ≡ going_down u (place_of c) ++ new
    there = ap (λ (as_led : List AirMessage). flat_map leading_from_air (spot_at u (place_of c)).air ++ as_led) behind ∙ sym (append_assoc (flat_map leading_from_air (spot_at u (place_of c)).air) (flat_map (leading_from_outbox c.number) (outbox_of u c.station)) new)
