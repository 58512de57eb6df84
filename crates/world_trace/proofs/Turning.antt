-- SPDX-License-Identifier: MIT OR Apache-2.0
-- Notes of the controller's connections at events that aren't its turn.
use Rattle.std.proofs.Common.{◌≡◌, Bool, true, false, if◌then◌else◌, List, [], unwrap_or, Option, refl, sym, ap, ◌∙◌}
use Rattle.connection_notes.specs.declared.note.Puts.{Puts}
use Rattle.connection_notes.specs.declared.sight.Sight.{Sight}
use Rattle.connection_notes.specs.Notes.{notes_between}
use Rattle.connection_notes.specs.Sights.{sights_of}
use Rattle.connection_notes.proofs.Turning.{same_all}
use Rattle.controller_model.specs.Controller.{Controller}
use Rattle.world_model.specs.declared.event.Event.{Event}
use Rattle.world_model.specs.declared.event.Event.TheVariants.{BaseTakes, BasePush, Handle, SwitchTakes, SwitchDoes, Tick, BaseDown}
use Rattle.conn_messages.specs.declared.parameters.TheConstants.{SWITCH_LINK}
use Rattle.world_model.specs.Life.{actors_after, event_after}
use Rattle.world_model.specs.Relay.{after_base_push, after_break}
use Rattle.world_model.specs.Stations.{after_base_takes}
use Rattle.world_model.specs.SwitchSide.{after_switch_does, after_switch_takes, sccp_in}
use Rattle.world_model.specs.World.{Actors, with_outbox}
use Rattle.world_model.proofs.Leads.{FromAir, OfTaken, aerial_leads, after_taken, broken_leads, does_leads, push_leads, switch_takes_leads}
use Rattle.world_model.proofs.Leads.{switch_took-leads, taking_leads}
use Rattle.world_trace.specs.Turns.{is_turn, turn_sights}

abbrev Remains : Actors → Actors → Type 0
Remains w v = v.controller ≡ w.controller

still : (w : Actors) (o : Option Actors) → OfTaken (Remains w) o → (unwrap_or o w).controller ≡ w.controller
still w o leads = after_taken (Remains w) o w leads refl

rests_at : (w : Actors) (event : Event) → is_turn event ≡ false → (actors_after w event).controller ≡ w.controller
unfolding event_after FromAir
rests_at w (BaseTakes station) other = still w (after_base_takes w station)
    (taking_leads (Remains w) w station (λ first others _ _ mobiles stations. refl))
rests_at w (BasePush source) other = still w (after_base_push w source) (push_leads (Remains w) w source (λ first others. refl) (λ message _. refl))
rests_at w Handle other = absurd (cc other)
rests_at w SwitchTakes other = still w (after_switch_takes w) (switch_takes_leads (Remains w) w (λ first others _ _.
    switch_took-leads (Remains w) (with_outbox SWITCH_LINK others w) (sccp_in first.out.frame) refl (λ next made. refl)))
rests_at w (SwitchDoes action) other = still w (after_switch_does w action) (does_leads (Remains w) w action (λ next made. refl))
rests_at w (Tick ms) other = absurd (cc other)
rests_at w (BaseDown source) other = still w (after_break w source) (broken_leads (Remains w) w source (λ _ _. refl) (λ _ _. refl))
rests_at w event other = still w (event_after w event) (aerial_leads (Remains w) w event refl (λ mobiles stations. refl))

-- the sights before such an event are those after it
pub seen_still : (w v : Actors) (event : Event) (ss : List Sight) → is_turn event ≡ false → v ≡ actors_after w event → ss ≡ sights_of w.controller.entries
    → ss ≡ sights_of v.controller.entries
seen_still w v event ss other after is =
    is ∙ ap (λ (c : Controller). sights_of c.entries) (sym (ap (λ (u : Actors). u.controller) after ∙ rests_at w event other))

turn_by : (puts : Puts) (b : Bool) (w v : Controller) → (b ≡ false → v ≡ w)
    → notes_between puts (if b then sights_of w.entries else []) (if b then sights_of v.entries else [])
    ≡ notes_between puts (sights_of w.entries) (sights_of v.entries)
turn_by puts true w v rests = refl
turn_by puts false w v rests =
    sym (ap (λ (c : Controller). notes_between puts (sights_of w.entries) (sights_of c.entries)) (rests refl) ∙ same_all puts (sights_of w.entries))

pub turn_notes : (puts : Puts) (w : Actors) (event : Event)
    → notes_between puts (turn_sights event w.controller) (turn_sights event (actors_after w event).controller)
    ≡ notes_between puts (sights_of w.controller.entries) (sights_of (actors_after w event).controller.entries)
turn_notes puts w event = turn_by puts (is_turn event) w.controller (actors_after w event).controller (rests_at w event)
