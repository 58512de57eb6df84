-- SPDX-License-Identifier: MIT OR Apache-2.0
-- What the switch takes at an event.
use Rattle.world_laws.proofs.Prelude.{◌≡◌, ℕ, nat_eq, Bool, true, false, if◌then◌else◌, List, [], ◌∷◌, ◌++◌, find, map, unwrap_or, Option}
use Rattle.world_laws.proofs.Prelude.{Some, None, refl, sym, ap, ◌∙◌, eqb-true, append-nil, Bssap, Transfer, Sccp, SWITCH_LINK, after_clear}
use Rattle.world_laws.proofs.Prelude.{assignment_request, clear_command, data_forms_on, dlci_for, SwitchState, Event, BaseTakes, BasePush}
use Rattle.world_laws.proofs.Prelude.{Handle, SwitchTakes, SwitchDoes, Tick, BaseDown, SwitchAction, Assign, Clear, Dtap, OutboxEntry}
use Rattle.world_laws.proofs.Prelude.{actors_after, first_of, taken, target_in, after_base_takes, after_switch_does, is_layer_3}
use Rattle.world_laws.proofs.Prelude.{may_send_on, sccp_in, sent_on, switch_took, switch_took_first, Actors, is_up, outbox_of, with_outbox}
use Rattle.world_laws.proofs.Prelude.{after_taken, handle_leads, turn_leads, push_leads, broken_leads, aerial_leads, taking_leads, is_some}
use Rattle.world_laws.proofs.Prelude.{take, tick, DeliversAt, is_of_peer, taken_in, taken_of, DeliversFirst}
use Rattle.controller_model.specs.Views.{forwarded}
use Rattle.msc_end.specs.Switch.{connection_of}
use Rattle.world_model.specs.Life.{event_after}
use Rattle.world_model.proofs.Leads.{FromAir, OfTaken}
use Rattle.world_laws.proofs.BesideRelay.{clear_same}

abbrev pub waiting_in : List OutboxEntry → ℕ → List (List ℕ)
waiting_in entries number = map (λ f. f.message) (forwarded (map (λ entry. entry.out) entries) number)

abbrev Took : ℕ → List (List ℕ) → Actors → Type 0
Took number messages w = taken_of w number ≡ messages

does : (w : Actors) (number : ℕ) (action : SwitchAction) → OfTaken (Took number (taken_of w number)) (after_switch_does w action)
unfolding OfTaken
does w number action = by_action action where
  on : (connection : ℕ) (message : Bssap) (next : SwitchState) →
      taken_in (find (is_of_peer number) next.connections) ≡ taken_of w number →
      OfTaken (Took number (taken_of w number)) (sent_on w connection message next)
  on connection message next same = by_open (may_send_on w connection) where
    by_open : (b : Bool) →
        OfTaken (Took number (taken_of w number)) (if b then Some (record w { switch = next; switch_made = w.switch_made ++ data_forms_on (connection_of w.switch.connections connection) message }) else None)
    by_open true = same
    by_open false = tt

  by_action : (action : SwitchAction) → OfTaken (Took number (taken_of w number)) (after_switch_does w action)
  by_action (Assign connection) = on connection assignment_request w.switch refl
  by_action (Clear connection) = on connection clear_command (after_clear w.switch connection) (clear_same number connection w.switch.connections)
  by_action (Dtap connection sapi message) = by_length (is_layer_3 message) where
    by_length : (b : Bool) →
        OfTaken (Took number (taken_of w number)) (if b then sent_on w connection (Transfer (dlci_for sapi) message) w.switch else None)
    by_length true = on connection (Transfer (dlci_for sapi) message) w.switch refl
    by_length false = tt

-- what the switch took of a connection is unchanged, but where it takes an entry
quiet_takes : (w : Actors) (event : Event) (number : ℕ) →
    OfTaken (Took number (taken_of w number)) (event_after w event) →
    taken SWITCH_LINK w event ≡ [] →
    taken_of (actors_after w event) number ≡ taken_of w number ++ waiting_in (taken SWITCH_LINK w event) number
unfolding forwarded
quiet_takes w event number unchanged nobody =
    after_taken (Took number (taken_of w number)) (event_after w event) w unchanged refl
    ∙ sym (append-nil (taken_of w number)) ∙ ap (λ (entries : List OutboxEntry). taken_of w number ++ waiting_in entries number) (sym nobody)

-- no station takes what waits for the switch
no_station : (w : Actors) (station : ℕ) → taken SWITCH_LINK w (BaseTakes station) ≡ []
unfolding event_after
no_station w station = by_station (nat_eq station SWITCH_LINK) refl where
  none : station ≡ SWITCH_LINK → after_base_takes w station ≡ None
  none is = ap (after_base_takes w) is

  by_station : (b : Bool) →
      nat_eq station SWITCH_LINK ≡ b →
      (if b then (if is_some (after_base_takes w station) then first_of (outbox_of w SWITCH_LINK) else []) else []) ≡ []
  by_station true is = ap (λ (o : Option Actors). if is_some o then first_of (outbox_of w SWITCH_LINK) else []) (none (eqb-true station SWITCH_LINK is))
  by_station false is = refl

-- ---- each event

switch_takes : (w : Actors) (number : ℕ) →
    DeliversFirst w number (outbox_of w SWITCH_LINK) →
    taken_of (actors_after w SwitchTakes) number ≡ taken_of w number ++ waiting_in (taken SWITCH_LINK w SwitchTakes) number
unfolding event_after forwarded
switch_takes w number delivers = by_link (is_up w SWITCH_LINK) where
  by_entries : (entries : List OutboxEntry) →
      DeliversFirst w number entries →
      taken_of (unwrap_or (switch_took_first entries w) w) number ≡ taken_of w number ++ waiting_in (if is_some (switch_took_first entries w) then first_of entries else []) number
  by_entries [] none = sym (append-nil (taken_of w number))
  by_entries (first ∷ others) takes_it = took_same (sccp_in first.out.frame) ∙ takes_it where
    took_same : (o : Option Sccp) → taken_of (switch_took o (with_outbox SWITCH_LINK others w)) number ≡ taken_of (switch_took o w) number
    took_same None = refl
    took_same (Some message) = refl

  by_link : (b : Bool) →
      taken_of (unwrap_or (if b then switch_took_first (outbox_of w SWITCH_LINK) w else None) w) number ≡ taken_of w number ++ waiting_in (if is_some (if b then switch_took_first (outbox_of w SWITCH_LINK) w else None) then first_of (outbox_of w SWITCH_LINK) else []) number
  by_link true = by_entries (outbox_of w SWITCH_LINK) delivers
  by_link false = sym (append-nil (taken_of w number))

pub switch_remains : (w : Actors) (event : Event) (number : ℕ) →
    DeliversAt w number event →
    taken_of (actors_after w event) number ≡ taken_of w number ++ waiting_in (taken SWITCH_LINK w event) number
unfolding event_after FromAir OfTaken
switch_remains w (BaseTakes station) number delivers =
    quiet_takes w (BaseTakes station) number (taking_leads (Took number (taken_of w number)) w station (λ first others _ _ mobiles stations. refl)) (no_station w station)
switch_remains w (BasePush source) number delivers = quiet_takes w (BasePush source) number (push_leads (Took number (taken_of w number)) w source (λ first others. refl) (λ message _. refl)) refl
switch_remains w Handle number delivers = quiet_takes w Handle number (handle_leads (Took number (taken_of w number)) w (λ item items _. turn_leads (Took number (taken_of w number)) (target_in w item.source item.what) (take item w.controller) (record w { inbox = items }) (λ links. refl))) refl
switch_remains w SwitchTakes number delivers = switch_takes w number delivers
switch_remains w (SwitchDoes action) number delivers = quiet_takes w (SwitchDoes action) number (does w number action) refl
switch_remains w (Tick ms) number delivers = quiet_takes w (Tick ms) number (turn_leads (Took number (taken_of w number)) None (tick ms w.controller) w (λ links. refl)) refl
switch_remains w (BaseDown source) number delivers = quiet_takes w (BaseDown source) number (broken_leads (Took number (taken_of w number)) w source (λ _ _. refl) (λ _ _. refl)) refl
switch_remains w event number delivers = quiet_takes w event number (aerial_leads (Took number (taken_of w number)) w event refl (λ mobiles stations. refl)) refl
