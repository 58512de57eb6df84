-- SPDX-License-Identifier: MIT OR Apache-2.0
-- The inbox gives what was put there, in order.
use Rattle.world_model.proofs.Prelude.{◌≡◌, ℕ, ◌==◌, Bool, true, false, if◌then◌else◌, List, [], ◌∷◌, ◌++◌, fold, map, unwrap_or, Option}
use Rattle.world_model.proofs.Prelude.{Some, None, option_to_list, refl, sym, ap, ◌∙◌, append_assoc, append-nil, filter-append, Sccp, Out}
use Rattle.world_model.proofs.Prelude.{SWITCH_LINK, Turn, take, tick, first_message, after_take_down, Item, Rsl, Event, BaseTakes, BasePush}
use Rattle.world_model.proofs.Prelude.{Handle, SwitchTakes, SwitchDoes, Tick, BaseDown, Tenure, actors_after, actors_after_all, first_of}
use Rattle.world_model.proofs.Prelude.{made_item, pushed, popped, all_pushed, all_popped, of_source, station_item, switch_item}
use Rattle.world_model.proofs.Prelude.{pushed_by_station, pushed_by_switch, after_base_push, entry_of, joined_by, with_turn, target_in}
use Rattle.world_model.proofs.Prelude.{handled, without_made, broken, after_break, after_base_takes, sccp_in, after_switch_takes}
use Rattle.world_model.proofs.Prelude.{after_switch_does, Actors, is_up, broken_link, outbox_of, with_outbox, base_of, with_base}
use Rattle.ruled_relay.specs.declared.item.What.TheVariants as whats
use Rattle.world_model.specs.Life.{event_after}
use Rattle.world_model.specs.World.{with_link}
use Rattle.world_model.proofs.Leads.{OfTaken, FromAir, switch_takes_leads, switch_took-leads, does_leads, after_taken}
use Rattle.world_model.proofs.Leads.{aerial_leads, taking_leads}

-- the inbox is as it was
abbrev Remains : Actors → Actors → Type 0
Remains w v = v.inbox ≡ w.inbox

joined_remains : (target : Option Tenure) (outs : List Out) (w : Actors) → Remains w (fold (joined_by target) w outs)
joined_remains target [] w = refl
joined_remains target (out ∷ outs) w = joined_remains target outs (joined_by target w out) ∙ by_link (is_up w out.to) where
  by_link : (b : Bool) → Remains w (if b then with_outbox out.to (outbox_of w out.to ++ entry_of target out ∷ []) w else w)
  by_link true = refl
  by_link false = refl

-- ---- an event: the inbox before, and then the items put, are the items taken, and then the inbox
-- after

abbrev pub KeepsInbox : Actors → Event → Type 0
KeepsInbox w event = w.inbox ++ pushed w event ≡ popped w event ++ (actors_after w event).inbox

quietly : (w : Actors) (o : Option Actors) → OfTaken (Remains w) o → w.inbox ++ [] ≡ (unwrap_or o w).inbox
quietly w o taken = append-nil w.inbox ∙ sym (after_taken (Remains w) o w taken refl)

pushed_by_switch_kept : (w : Actors) (made : List Sccp) →
    w.inbox ++ map switch_item (first_of made) ≡ (unwrap_or (pushed_by_switch made w) w).inbox
pushed_by_switch_kept w [] = append-nil w.inbox
pushed_by_switch_kept w (first ∷ others) = refl

pushed_by_station_kept : (w : Actors) (station : ℕ) (o : Option Rsl) →
    w.inbox ++ map (station_item station) (option_to_list o) ≡ (unwrap_or (pushed_by_station station o w) w).inbox
pushed_by_station_kept w station None = append-nil w.inbox
pushed_by_station_kept w station (Some message) = refl

push_keeps_order : (w : Actors) (source : ℕ) → w.inbox ++ made_item w source ≡ (unwrap_or (after_base_push w source) w).inbox
push_keeps_order w source = by_source (source == SWITCH_LINK) where
  by_source : (b : Bool) →
      w.inbox ++ (if b then map switch_item (first_of w.switch_made) else map (station_item source) (option_to_list (first_message (base_of w source)))) ≡ (unwrap_or (if b then pushed_by_switch w.switch_made w else pushed_by_station source (first_message (base_of w source)) w) w).inbox
  by_source true = pushed_by_switch_kept w w.switch_made
  by_source false = pushed_by_station_kept w source (first_message (base_of w source))

without_made_remains : (source : ℕ) (w : Actors) → Remains w (without_made source w)
without_made_remains source w = by_source (source == SWITCH_LINK) where
  by_source : (b : Bool) → Remains w (if b then record w { switch_made = [] } else with_base source (after_take_down (base_of w source)) w)
  by_source true = refl
  by_source false = refl

break_keeps_uses : (w : Actors) (source : ℕ) →
    w.inbox ++ (if is_up w source then record { source = source; what = whats.Down } ∷ [] else []) ≡ (unwrap_or (after_break w source) w).inbox
break_keeps_uses w source = by_link (is_up w source) where
  by_link : (b : Bool) →
      w.inbox ++ (if b then record { source = source; what = whats.Down } ∷ [] else []) ≡ (unwrap_or (if b then Some (broken source w) else None) w).inbox
  by_link true = ap (λ (items : List Item). items ++ record { source = source; what = whats.Down } ∷ []) (sym (without_made_remains source (with_link source broken_link w)))
  by_link false = append-nil w.inbox

turn_remains : (target : Option Tenure) (t : Turn) (w : Actors) → Remains w (with_turn target t w)
turn_remains target t w = joined_remains target t.outs (record w { controller = t.next })

handle_keeps_order : (w : Actors) (items : List Item) → w.inbox ≡ items → items ≡ first_of items ++ (unwrap_or (handled items w) w).inbox
handle_keeps_order w [] is = sym is
handle_keeps_order w (item ∷ items) is =
    ap (λ (others : List Item). item ∷ others) (sym (turn_remains (target_in w item.source item.what) (take item w.controller) (record w { inbox = items })))

pub inbox_keeps_order : (w : Actors) (event : Event) → KeepsInbox w event
unfolding event_after FromAir
inbox_keeps_order w (BaseTakes station) = quietly w (after_base_takes w station) (taking_leads (Remains w) w station (λ first others _ _ mobiles stations. refl))
inbox_keeps_order w (BasePush source) = push_keeps_order w source
inbox_keeps_order w Handle = append-nil w.inbox ∙ handle_keeps_order w w.inbox refl
inbox_keeps_order w SwitchTakes =
    quietly w (after_switch_takes w) (switch_takes_leads (Remains w) w (λ first others _ _. switch_took-leads (Remains w) (with_outbox SWITCH_LINK others w) (sccp_in first.out.frame) refl (λ next made. refl)))
inbox_keeps_order w (SwitchDoes action) = quietly w (after_switch_does w action) (does_leads (Remains w) w action (λ next made. refl))
inbox_keeps_order w (Tick ms) = append-nil w.inbox ∙ sym (turn_remains None (tick ms w.controller) w)
inbox_keeps_order w (BaseDown source) = break_keeps_uses w source
inbox_keeps_order w event = quietly w (event_after w event) (aerial_leads (Remains w) w event refl (λ mobiles stations. refl))

-- ---- all events

pub inbox-all : (w : Actors) (events : List Event) →
    w.inbox ++ all_pushed w events ≡ all_popped w events ++ (actors_after_all w events).inbox
inbox-all w [] = append-nil w.inbox
inbox-all w (event ∷ events) =
    sym (append_assoc w.inbox (pushed w event) (all_pushed (actors_after w event) events))
    ∙ ap (λ (items : List Item). items ++ all_pushed (actors_after w event) events) (inbox_keeps_order w event)
    ∙ append_assoc (popped w event) (actors_after w event).inbox (all_pushed (actors_after w event) events)
    ∙ ap (λ (items : List Item). popped w event ++ items) (inbox-all (actors_after w event) events)
    ∙ sym (append_assoc (popped w event) (all_popped (actors_after w event) events) (actors_after_all (actors_after w event) events).inbox)

pub sources_all : (source : ℕ) (w : Actors) (events : List Event) →
    w.inbox ≡ [] →
    of_source source (all_pushed w events) ≡ of_source source (all_popped w events) ++ of_source source (actors_after_all w events).inbox
sources_all source w events empty =
    ap (of_source source) (ap (λ (items : List Item). items ++ all_pushed w events) (sym empty) ∙ inbox-all w events)
    ∙ filter-append (λ item. item.source == source) (all_popped w events) (actors_after_all w events).inbox
