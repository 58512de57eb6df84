-- SPDX-License-Identifier: MIT OR Apache-2.0
-- The controller of a world is the one after the steps that it took.
use Rattle.world_model.proofs.Prelude.{◌≡◌, List, [], ◌∷◌, ◌++◌, map, unwrap_or, Option, None, Some, append_assoc, refl, sym, ap, ◌∙◌}
use Rattle.world_model.proofs.Prelude.{Out, SWITCH_LINK, Controller, Turn, take, tick, Item, Parameters, Step, each, new_controller, turn}
use Rattle.world_model.proofs.Prelude.{step, Event, BaseTakes, BasePush, Handle, SwitchTakes, SwitchDoes, Tick, BaseDown, Tenure}
use Rattle.world_model.proofs.Prelude.{actors_after, actors_after_all, with_turn, entry_of, target_in, handled, after_base_push}
use Rattle.world_model.proofs.Prelude.{after_break, after_base_takes, outputs, outputs_at, first_taken, step_at, all_steps, all_outputs}
use Rattle.world_model.proofs.Prelude.{FollowsTable, RunsByTable, sccp_in, after_switch_takes, after_switch_does, Actors, new_actors}
use Rattle.world_model.proofs.Prelude.{with_outbox}
use Rattle.std.proofs.Common.{append-nil}
use Rattle.controller_model.specs.Life.{life}
use Rattle.world_model.specs.Life.{event_after}
use Rattle.world_model.proofs.Leads.{OfTaken, FromAir, turn_leads, switch_takes_leads, switch_took-leads, push_leads, does_leads, broken_leads, after_taken}
use Rattle.world_model.proofs.Leads.{aerial_leads, taking_leads}

-- the controller is as it was
abbrev Remains : Actors → Actors → Type 0
Remains w v = v.controller ≡ w.controller

-- the controller after steps
abbrev pub after_steps : Controller → List Step → Controller
after_steps c ss = (each step c ss).next

pub Moves : Actors → Event → Type 0
Moves w event = (actors_after w event).controller ≡ after_steps w.controller (step_at w event)

still : (w : Actors) (o : Option Actors) → OfTaken (Remains w) o → (unwrap_or o w).controller ≡ w.controller
still w o leads = after_taken (Remains w) o w leads refl

turn_moves : (target : Option Tenure) (t : Turn) (w : Actors) → (with_turn target t w).controller ≡ t.next
turn_moves target t w = turn_leads (λ v. v.controller ≡ t.next) target t w (λ links. refl)

handle_moves : (w : Actors) (items : List Item) → (unwrap_or (handled items w) w).controller ≡ after_steps w.controller (first_taken items)
handle_moves w [] = refl
handle_moves w (item ∷ items) = turn_moves (target_in w item.source item.what) (take item w.controller) (record w { inbox = items })

pub moves : (w : Actors) (event : Event) → Moves w event
unfolding event_after FromAir Moves
moves w (BaseTakes station) = still w (after_base_takes w station) (taking_leads (Remains w) w station (λ first others _ _ mobiles stations. refl))
moves w (BasePush source) = still w (after_base_push w source) (push_leads (Remains w) w source (λ first others. refl) (λ message _. refl))
moves w Handle = handle_moves w w.inbox
moves w SwitchTakes =
    still w (after_switch_takes w) (switch_takes_leads (Remains w) w (λ first others _ _. switch_took-leads (Remains w) (with_outbox SWITCH_LINK others w) (sccp_in first.out.frame) refl (λ next made. refl)))
moves w (SwitchDoes action) = still w (after_switch_does w action) (does_leads (Remains w) w action (λ next made. refl))
moves w (Tick ms) = turn_moves None (tick ms w.controller) w
moves w (BaseDown source) = still w (after_break w source) (broken_leads (Remains w) w source (λ _ _. refl) (λ _ _. refl))
moves w event = still w (event_after w event) (aerial_leads (Remains w) w event refl (λ mobiles stations. refl))

after_steps-append : (c : Controller) (xs ys : List Step) → after_steps c (xs ++ ys) ≡ after_steps (after_steps c xs) ys
after_steps-append c [] ys = refl
after_steps-append c (x ∷ xs) ys = after_steps-append (step c x).next xs ys

moves_all : (w : Actors) (events : List Event) → (actors_after_all w events).controller ≡ after_steps w.controller (all_steps w events)
unfolding Moves
moves_all w [] = refl
moves_all w (event ∷ events) =
    moves_all (actors_after w event) events
    ∙ ap (λ (c : Controller). after_steps c (all_steps (actors_after w event) events)) (moves w event)
    ∙ sym (after_steps-append w.controller (step_at w event) (all_steps (actors_after w event) events))

pub FollowsTable-new : (settings : Parameters) (events : List Event) → FollowsTable settings events
unfolding life
FollowsTable-new settings events = moves_all (new_actors settings) events

-- ---- what it put

outs_of_entries : (target : Option Tenure) (outs : List Out) → map (λ entry. entry.out) (map (entry_of target) outs) ≡ outs
outs_of_entries None [] = refl
outs_of_entries None (out ∷ outs) = ap (λ (xs : List Out). out ∷ xs) (outs_of_entries None outs)
outs_of_entries (Some target) [] = refl
outs_of_entries (Some target) (out ∷ outs) = ap (λ (xs : List Out). out ∷ xs) (outs_of_entries (Some target) outs)

items-put : (w : Actors) (items : List Item) →
    map (λ entry. entry.out) (outputs_at w items) ≡ (each step w.controller (first_taken items)).outs
items-put w [] = refl
items-put w (item ∷ items) = outs_of_entries (target_in w item.source item.what) (take item w.controller).outs ∙ sym (append-nil (take item w.controller).outs)

puts : (w : Actors) (event : Event) → map (λ entry. entry.out) (outputs w event) ≡ (each step w.controller (step_at w event)).outs
puts w Handle = items-put w w.inbox
puts w (Tick ms) = outs_of_entries None (tick ms w.controller).outs ∙ sym (append-nil (tick ms w.controller).outs)
puts w _ = refl

outs-append : (c : Controller) (xs ys : List Step) →
    (each step c (xs ++ ys)).outs ≡ (each step c xs).outs ++ (each step (after_steps c xs) ys).outs
outs-append c [] ys = refl
outs-append c (x ∷ xs) ys = ap (λ (outs : List Out). (step c x).outs ++ outs) (outs-append (step c x).next xs ys) ∙ sym (append_assoc (step c x).outs (each step (step c x).next xs).outs (each step (after_steps (step c x).next xs) ys).outs)

puts_all : (w : Actors) (events : List Event) → all_outputs w events ≡ (each step w.controller (all_steps w events)).outs
unfolding Moves
puts_all w [] = refl
puts_all w (event ∷ events) =
    ap (λ (outs : List Out). outs ++ all_outputs (actors_after w event) events) (puts w event)
    ∙ ap (λ (outs : List Out). (each step w.controller (step_at w event)).outs ++ outs) (puts_all (actors_after w event) events)
    ∙ ap (λ (c : Controller). (each step w.controller (step_at w event)).outs ++ (each step c (all_steps (actors_after w event) events)).outs) (moves w event)
    ∙ sym (outs-append w.controller (step_at w event) (all_steps (actors_after w event) events))

pub RunsByTable-new : (settings : Parameters) (events : List Event) → RunsByTable settings events
unfolding life
RunsByTable-new settings events =
    ap (λ (outs : List Out). turn outs (actors_after_all (new_actors settings) events).controller) (puts_all (new_actors settings) events)
    ∙ ap (λ (c : Controller). turn (each step (new_controller settings) (all_steps (new_actors settings) events)).outs c) (moves_all (new_actors settings) events)
