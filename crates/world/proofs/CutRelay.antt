-- SPDX-License-Identifier: MIT OR Apache-2.0
-- The controller, its outboxes and the switch, and the break of a link, in either order.
use Rattle.std.proofs.Common.{◌≡◌, ◌≢◌, ℕ, ◌==◌, ◌&&◌, not, nat_eq, nat_lt, length, Bool, true, false, if◌then◌else◌, List, [], ◌∷◌, ◌++◌}
use Rattle.std.proofs.Common.{fold, Option, Some, None, refl, sym, ap, ◌∙◌, subst, inl, inr, eqb-true}
use Rattle.std.proofs.lemmas.Bool.{cases_Bool, eqb-false}
use Rattle.std.specs.Option.{is_none}
use Rattle.std.specs.Prelude.{option_map}
use Rattle.bssmap_codec.specs.declared.bssap.Bssap.{Bssap}
use Rattle.bssmap_codec.specs.declared.bssap.Bssap.TheVariants.{Transfer}
use Rattle.bssmap_codec.specs.declared.sccp.Sccp.{Sccp}
use Rattle.conn_messages.specs.declared.out.Out.{Out}
use Rattle.conn_messages.specs.declared.parameters.TheConstants.{SWITCH_LINK}
use Rattle.controller_model.specs.Controller.{Turn}
use Rattle.controller_model.specs.Life.{take, tick}
use Rattle.msc_end.specs.Refusal.{send_fault}
use Rattle.msc_end.specs.Switch.{after_clear, assignment_request, clear_command, connection_of, data_forms_on, dlci_for, replies}
use Rattle.msc_end.specs.SwitchState.{SwitchState}
use Rattle.rsl_codec.specs.declared.rsl.Rsl.{Rsl}
use Rattle.rsl_codec.specs.declared.rsl.Rsl.TheVariants.{ChannelActivationAck}
use Rattle.ruled_relay.specs.declared.item.Item.{Item}
use Rattle.ruled_relay.specs.declared.item.What.{What}
use Rattle.ruled_relay.specs.declared.item.What.TheVariants as whats
use Rattle.controller_model.specs.Controller.{place_at}
use Rattle.world_model.specs.declared.event.SwitchAction.{SwitchAction}
use Rattle.world_model.specs.declared.event.SwitchAction.TheVariants.{Assign, Clear, Dtap}
use Rattle.world_model.specs.declared.line.OutboxEntry.{OutboxEntry}
use Rattle.world_model.specs.declared.seat.Tenure.{Tenure}
use Rattle.world_model.specs.Relay.{acknowledged_tenure, after_tick, entry_of, handled, joined_by, target_in, with_turn}
use Rattle.world_model.specs.Stations.{rsl_in}
use Rattle.world_model.specs.SwitchSide.{after_switch_does, after_switch_takes, is_layer_3, may_send_on, sccp_in, sent_on, switch_took}
use Rattle.world_model.specs.SwitchSide.{switch_took_first}
use Rattle.world_model.specs.World.{Actors, Link, is_up, link_of, outbox_of, with_link, with_outbox}
use Rattle.world.proofs.Cut.{cut, cut_made, cut-down, cut-own, down, link_beside, tenure_beside, with_link_beside, with_outbox_beside}
use Rattle.world.proofs.CutMobiles.{if_beside, not_true}

-- ---- what the controller puts

-- an entry for a link of this number
abbrev pub joined_at : Actors → ℕ → OutboxEntry → Actors
joined_at w n entry = if is_up w n then with_outbox n (outbox_of w n ++ entry ∷ []) w else w

own_beside : (source : ℕ) (w : Actors) (entry : OutboxEntry) → joined_at (cut source w) source entry ≡ cut source (joined_at w source entry)
own_beside source w entry =
    ap (λ (b : Bool). if b then with_outbox source (outbox_of (cut source w) source ++ entry ∷ []) (cut source w) else cut source w) (cut-down source w)
    ∙ sym (by (is_up w source)) where
      by : (b : Bool) → cut source (if b then with_outbox source (outbox_of w source ++ entry ∷ []) w else w) ≡ cut source w
      by true = cut-own source w (record (link_of w source) { outbox = outbox_of w source ++ entry ∷ [] })
      by false = refl

other_beside : (source : ℕ) (w : Actors) (n : ℕ) (entry : OutboxEntry) → n ≢ source
    → joined_at (cut source w) n entry ≡ cut source (joined_at w n entry)
other_beside source w n entry differs =
    ap (λ (l : Link). if l.up then with_link n (record l { outbox = l.outbox ++ entry ∷ [] }) (cut source w) else cut source w) (link_beside source w n differs)
    ∙ by (is_up w n) where
      by : (b : Bool)
          → (if b then with_link n (record (link_of w n) { outbox = outbox_of w n ++ entry ∷ [] }) (cut source w) else cut source w) ≡ cut source (if b then with_outbox n (outbox_of w n ++ entry ∷ []) w else w)
      by true = with_link_beside source w n (record (link_of w n) { outbox = outbox_of w n ++ entry ∷ [] }) differs
      by false = refl

joined_beside : (source : ℕ) (target : Option Tenure) (w : Actors) (out : Out)
    → joined_by target (cut source w) out ≡ cut source (joined_by target w out)
joined_beside source target w out =
    elim (cases_Bool (nat_eq out.to source)) [
      | inl same ↦ subst (λ (n : ℕ). joined_at (cut source w) n (entry_of target out) ≡ cut source (joined_at w n (entry_of target out))) (sym (eqb-true out.to source same)) (own_beside source w (entry_of target out))
      | inr other ↦ other_beside source w out.to (entry_of target out) (eqb-false out.to source other)
    ]

all_joined_beside : (source : ℕ) (target : Option Tenure) (w : Actors) (outs : List Out)
    → fold (joined_by target) (cut source w) outs ≡ cut source (fold (joined_by target) w outs)
all_joined_beside source target w [] = refl
all_joined_beside source target w (out ∷ outs) =
    ap (λ (v : Actors). fold (joined_by target) v outs) (joined_beside source target w out)
    ∙ all_joined_beside source target (joined_by target w out) outs

turn_beside : (source : ℕ) (target : Option Tenure) (t : Turn) (w : Actors)
    → with_turn target t (cut source w) ≡ cut source (with_turn target t w)
turn_beside source target t w = all_joined_beside source target (record w { controller = t.next }) t.outs

pub tick_beside : (source : ℕ) (w : Actors) (ms : ℕ) → after_tick (cut source w) ms ≡ option_map (cut source) (after_tick w ms)
tick_beside source w ms = ap Some (turn_beside source None (tick ms w.controller) w)

-- ---- the first item of the inbox, where there is one

acknowledged_beside : (source : ℕ) (w : Actors) (n : ℕ) (message : Option Rsl)
    → acknowledged_tenure (cut source w) n message ≡ acknowledged_tenure w n message
acknowledged_beside source w n (Some (ChannelActivationAck a)) = ap Some (tenure_beside source w (place_at n a.channel))
acknowledged_beside source w n _ = refl

target_beside : (source : ℕ) (w : Actors) (n : ℕ) (what : What) → target_in (cut source w) n what ≡ target_in w n what
target_beside source w n (whats.Frame frame) = acknowledged_beside source w n (rsl_in frame)
target_beside source w n whats.Down = refl

handled_beside : (source : ℕ) (items : List Item) (w : Actors) → nat_lt 0 (length items) ≡ true
    → handled (items ++ down source ∷ []) (cut source w) ≡ option_map (cut source) (handled items w)
handled_beside source [] w some = absurd cc
handled_beside source (item ∷ items) w some =
    ap (λ (t : Option Tenure). Some (with_turn t (take item w.controller) (cut source (record w { inbox = items })))) (target_beside source w item.source item.what)
    ∙ ap Some (turn_beside source (target_in w item.source item.what) (take item w.controller) (record w { inbox = items }))

pub handle_beside : (source : ℕ) (w : Actors) → nat_lt 0 (length w.inbox) ≡ true
    → handled (cut source w).inbox (cut source w) ≡ option_map (cut source) (handled w.inbox w)
handle_beside source w some = handled_beside source w.inbox w some

-- ---- the switch, where the link is that of a station

made_beside : (source : ℕ) (made more : List Sccp) → (source == SWITCH_LINK) ≡ false
    → cut_made (source == SWITCH_LINK) made ++ more ≡ cut_made (source == SWITCH_LINK) (made ++ more)
made_beside source made more is = ap (λ (b : Bool). cut_made b made ++ more) is ∙ sym (ap (λ (b : Bool). cut_made b (made ++ more)) is)

took_beside : (source : ℕ) (w : Actors) (message : Option Sccp) → (source == SWITCH_LINK) ≡ false
    → switch_took message (cut source w) ≡ cut source (switch_took message w)
took_beside source w None is = refl
took_beside source w (Some message) is =
    ap (λ (made : List Sccp). record (cut source (switch_took (Some message) w)) { switch_made = made }) (made_beside source w.switch_made (replies w.switch.connections message) is)

took_first_beside : (source : ℕ) (w : Actors) (entries : List OutboxEntry) → (source == SWITCH_LINK) ≡ false
    → switch_took_first entries (cut source w) ≡ option_map (cut source) (switch_took_first entries w)
took_first_beside source w [] is = refl
took_first_beside source w (first ∷ others) is =
    ap (λ (v : Actors). Some (switch_took (sccp_in first.out.frame) v)) (with_outbox_beside source w SWITCH_LINK others (λ same. eqb-false source SWITCH_LINK is (sym same)))
    ∙ ap Some (took_beside source (with_outbox SWITCH_LINK others w) (sccp_in first.out.frame) is)

pub switch_takes_beside : (source : ℕ) (w : Actors) → not (source == SWITCH_LINK) ≡ true
    → after_switch_takes (cut source w) ≡ option_map (cut source) (after_switch_takes w)
switch_takes_beside source w is = by (not_true (source == SWITCH_LINK) is) where
  by : (source == SWITCH_LINK) ≡ false → after_switch_takes (cut source w) ≡ option_map (cut source) (after_switch_takes w)
  by other =
      let kept : link_of (cut source w) SWITCH_LINK ≡ link_of w SWITCH_LINK = link_beside source w SWITCH_LINK (λ same. eqb-false source SWITCH_LINK other (sym same)) in
      if_beside source (is_up (cut source w) SWITCH_LINK) (is_up w SWITCH_LINK) _ _ (ap (λ (l : Link). l.up) kept)
      (λ _. ap (λ (l : Link). switch_took_first l.outbox (cut source w)) kept ∙ took_first_beside source w (outbox_of w SWITCH_LINK) other)

sent_beside : (source : ℕ) (w : Actors) (connection : ℕ) (message : Bssap) (next : SwitchState) → (source == SWITCH_LINK) ≡ false
    → sent_on (cut source w) connection message next ≡ option_map (cut source) (sent_on w connection message next)
sent_beside source w connection message next is =
    if_beside source (may_send_on (cut source w) connection) (may_send_on w connection) _ _
    (ap (λ (l : Link). l.up && is_none (send_fault (connection_of w.switch.connections connection))) (link_beside source w SWITCH_LINK (λ same. eqb-false source SWITCH_LINK is (sym same))))
    (λ _. ap (λ (made : List Sccp). Some (record (cut source w) { switch = next; switch_made = made })) (made_beside source w.switch_made (data_forms_on (connection_of w.switch.connections connection) message) is))

pub switch_does_beside : (source : ℕ) (w : Actors) (action : SwitchAction) → not (source == SWITCH_LINK) ≡ true
    → after_switch_does (cut source w) action ≡ option_map (cut source) (after_switch_does w action)
switch_does_beside source w (Assign connection) is = sent_beside source w connection assignment_request w.switch (not_true (source == SWITCH_LINK) is)
switch_does_beside source w (Clear connection) is = sent_beside source w connection clear_command (after_clear w.switch connection) (not_true (source == SWITCH_LINK) is)
switch_does_beside source w (Dtap connection sapi message) is =
    if_beside source (is_layer_3 message) (is_layer_3 message) _ _ refl (λ _. sent_beside source w connection (Transfer (dlci_for sapi) message) w.switch (not_true (source == SWITCH_LINK) is))
