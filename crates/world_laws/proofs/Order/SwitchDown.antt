-- SPDX-License-Identifier: MIT OR Apache-2.0
-- Which events change the switch. Once the switch's link is down in a run, nothing more arrives at
-- the switch.
use Rattle.world_laws.proofs.Prelude.{◌≡◌, ℕ, ◌&&◌, Bool, true, false, if◌then◌else◌, List, [], ◌∷◌, ◌++◌, ◌+◌, length, unwrap_or, Option}
use Rattle.world_laws.proofs.Prelude.{Some, None, refl, ap, ◌∙◌, Bssap, Transfer, SWITCH_LINK, after_clear, assignment_request}
use Rattle.world_laws.proofs.Prelude.{clear_command, data_forms_on, dlci_for, send_fault, SwitchState, is_none, Parameters, Event}
use Rattle.world_laws.proofs.Prelude.{BaseTakes, BasePush, Handle, SwitchTakes, SwitchDoes, Tick, BaseDown, SwitchAction, Assign, Clear}
use Rattle.world_laws.proofs.Prelude.{Dtap, actors_after, actors_after_all, after_base_push, after_break, after_handle, target_in}
use Rattle.world_laws.proofs.Prelude.{after_base_takes, after_switch_does, is_layer_3, sent_on, switch_took_first, Actors, Link}
use Rattle.world_laws.proofs.Prelude.{broken_link, is_station_up, is_up, new_actors, outbox_of, after_taken, handle_leads, turn_leads}
use Rattle.world_laws.proofs.Prelude.{push_leads, broken_leads, changed_link, new_outbox, aerial_leads, taking_leads, take, tick}
use Rattle.world_laws.proofs.Prelude.{took_first, OfTaken, down_outbox}
use Rattle.msc_end.specs.Switch.{connection_of}
use Rattle.world_model.specs.Life.{event_after}
use Rattle.world_model.specs.Relay.{broken}
use Rattle.world_model.proofs.Leads.{FromAir}
use Rattle.world_laws.proofs.Events.{world}

-- ---- the switch is unchanged

abbrev Remains : Actors → Actors → Type 0
Remains w v = v.switch ≡ w.switch

still : (w : Actors) (o : Option Actors) → OfTaken (Remains w) o → (unwrap_or o w).switch ≡ w.switch
still w o leads = after_taken (Remains w) o w leads refl

-- it takes a message, or sends on a connection; no other event changes it
pub data SwitchKind (w : Actors) : Event → Type 0 where
  takes : SwitchKind w SwitchTakes
  does : (action : SwitchAction) → SwitchKind w (SwitchDoes action)
  unchanged : {event : Event} → (actors_after w event).switch ≡ w.switch → SwitchKind w event

pub switch_kind : (w : Actors) (event : Event) → SwitchKind w event
unfolding event_after FromAir
switch_kind w (BaseTakes station) = unchanged (still w (after_base_takes w station) (taking_leads (Remains w) w station (λ first others _ _ mobiles stations. refl)))
switch_kind w (BasePush source) = unchanged (still w (after_base_push w source) (push_leads (Remains w) w source (λ first others. refl) (λ message _. refl)))
switch_kind w Handle = unchanged (still w (after_handle w) (handle_leads (Remains w) w (λ item items _. turn_leads (Remains w) (target_in w item.source item.what) (take item w.controller) (record w { inbox = items }) (λ links. refl))))
switch_kind w SwitchTakes = takes
switch_kind w (SwitchDoes action) = does action
switch_kind w (Tick ms) = unchanged (turn_leads (Remains w) None (tick ms w.controller) w (λ links. refl))
switch_kind w (BaseDown source) = unchanged (still w (after_break w source) (broken_leads (Remains w) w source (λ _ _. refl) (λ _ _. refl)))
switch_kind w event = unchanged (still w (event_after w event) (aerial_leads (Remains w) w event refl (λ mobiles stations. refl)))

-- ---- where its link is down it is unchanged

-- it sends on no connection
sent_nothing : (w : Actors) (connection : ℕ) (message : Bssap) (next : SwitchState) →
    is_up w SWITCH_LINK ≡ false →
    (unwrap_or (sent_on w connection message next) w).switch ≡ w.switch
sent_nothing w connection message next down =
    ap (λ (up : Bool). (unwrap_or (if (up && is_none (send_fault (connection_of w.switch.connections connection))) then Some (record w { switch = next; switch_made = w.switch_made ++ data_forms_on (connection_of w.switch.connections connection) message }) else None) w).switch) down

does_nothing : (w : Actors) (action : SwitchAction) →
    is_up w SWITCH_LINK ≡ false →
    (unwrap_or (after_switch_does w action) w).switch ≡ w.switch
does_nothing w (Assign connection) down = sent_nothing w connection assignment_request w.switch down
does_nothing w (Clear connection) down = sent_nothing w connection clear_command (after_clear w.switch connection) down
does_nothing w (Dtap connection sapi message) down = by_length (is_layer_3 message) where
  by_length : (b : Bool) →
      (unwrap_or (if b then sent_on w connection (Transfer (dlci_for sapi) message) w.switch else None) w).switch ≡ w.switch
  by_length true = sent_nothing w connection (Transfer (dlci_for sapi) message) w.switch down
  by_length false = refl

down_by : {w : Actors} {event : Event} → SwitchKind w event → is_up w SWITCH_LINK ≡ false → (actors_after w event).switch ≡ w.switch
unfolding event_after
down_by {w} takes down = ap (λ (up : Bool). (unwrap_or (if up then switch_took_first (outbox_of w SWITCH_LINK) w else None) w).switch) down
down_by {w} (does action) down = does_nothing w action down
down_by (unchanged same) down = same

pub switch-down : (w : Actors) (event : Event) → is_up w SWITCH_LINK ≡ false → (actors_after w event).switch ≡ w.switch
switch-down w event down = down_by (switch_kind w event) down

-- ---- the outbox is empty

emptied : (w : Actors) (events : List Event) →
    (is_up w SWITCH_LINK ≡ false → outbox_of w SWITCH_LINK ≡ []) →
    is_up (actors_after_all w events) SWITCH_LINK ≡ false →
    outbox_of (actors_after_all w events) SWITCH_LINK ≡ []
emptied w [] none down = none down
emptied w (event ∷ events) none down = emptied (actors_after w event) events (down_outbox SWITCH_LINK w event none) down

pub outbox_down : (settings : Parameters) (events : List Event) →
    is_up (world settings events) SWITCH_LINK ≡ false →
    outbox_of (world settings events) SWITCH_LINK ≡ []
outbox_down settings events down = emptied (new_actors settings) events (λ _. new_outbox (length settings.cells + 1) SWITCH_LINK) down

-- ---- a link that was up breaks

pub break_cuts : (w : Actors) → is_up w SWITCH_LINK ≡ true → is_up (actors_after w (BaseDown SWITCH_LINK)) SWITCH_LINK ≡ false
unfolding event_after
break_cuts w up =
    ap (λ (b : Bool). is_up (unwrap_or (if b then Some (broken SWITCH_LINK w) else None) w) SWITCH_LINK) up
    ∙ ap (λ (link : Link). link.up) (changed_link w.links SWITCH_LINK broken_link up)

-- ---- a station whose link is down takes nothing

pub station-idle : (w : Actors) (station : ℕ) → is_station_up w station ≡ false → actors_after w (BaseTakes station) ≡ w
unfolding event_after
station-idle w station down = ap (λ (b : Bool). unwrap_or (if b then took_first station (outbox_of w station) w else None) w) down
