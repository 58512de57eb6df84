-- SPDX-License-Identifier: MIT OR Apache-2.0
-- The controller of a run: where it is unchanged, and the numbers of its connections.
use Rattle.world_laws.proofs.Prelude.{◌≡◌, ℕ, ◌≤◌, ◌<◌, leb, inl, inr, List, [], ◌∷◌, ◌++◌, option_map, Some, None, refl, sym, ap, ◌∙◌}
use Rattle.world_laws.proofs.Prelude.{subst, arith, append_assoc, AllByRecursion, cases_Bool, leb-false, leb-true, append-nil, none-some}
use Rattle.world_laws.proofs.Prelude.{Connection, connection_of, IsNumbered, IsOctetStep, step_keeps_rest, find_below, life_fits, Step}
use Rattle.world_laws.proofs.Prelude.{Controller, Entry, each, new_controller, step, Parameters, Event, actors_after, actors_after_all}
use Rattle.world_laws.proofs.Prelude.{all_steps, step_at, Actors, new_actors, FollowsTable-new, TookOctets}
use Rattle.controller_model.specs.Life.{life}
use Rattle.world_laws.proofs.References.Moving.{each-append}
use Rattle.world_laws.proofs.Events.{snoc_actors, snoc_steps, world}

-- ---- the steps of a run

append_steps : (w : Actors) (events more : List Event) →
    all_steps w (events ++ more) ≡ all_steps w events ++ all_steps (actors_after_all w events) more
append_steps w [] more = refl
append_steps w (x ∷ xs) more =
    ap (λ (steps : List Step). step_at w x ++ steps) (append_steps (actors_after w x) xs more)
    ∙ sym (append_assoc (step_at w x) (all_steps (actors_after w x) xs) (all_steps (actors_after_all (actors_after w x) xs) more))

-- what was taken before was octets, too
pub octets_front : (settings : Parameters) (events more : List Event) → TookOctets settings (events ++ more) → TookOctets settings events
octets_front settings events more octets =
    front (all_steps (new_actors settings) events) (all_steps (world settings events) more) (subst (AllByRecursion IsOctetStep) (append_steps (new_actors settings) events more) octets) where
      front : (steps others : List Step) → AllByRecursion IsOctetStep (steps ++ others) → AllByRecursion IsOctetStep steps
      front [] others all = tt
      front (s ∷ ss) others all = (all.0, front ss others all.1)

-- ---- the controller

-- after a world of the run
controller-then : (settings : Parameters) (events : List Event) (event : Event) →
    (actors_after (world settings events) event).controller ≡ (life settings (all_steps (new_actors settings) events ++ step_at (world settings events) event)).next
controller-then settings events event =
    ap (λ (w : Actors). w.controller) (sym (snoc_actors (new_actors settings) events event)) ∙ FollowsTable-new settings (events ++ event ∷ [])
    ∙ ap (λ (steps : List Step). (life settings steps).next) (snoc_steps (new_actors settings) events event)

-- it is as it was where it takes nothing
pub controller-remains : (settings : Parameters) (events : List Event) (event : Event) →
    step_at (world settings events) event ≡ [] →
    (actors_after (world settings events) event).controller ≡ (world settings events).controller
controller-remains settings events event none =
    controller-then settings events event
    ∙ ap (λ (steps : List Step). (life settings (all_steps (new_actors settings) events ++ steps)).next) none
    ∙ ap (λ (steps : List Step). (life settings steps).next) (append-nil (all_steps (new_actors settings) events))
    ∙ sym (FollowsTable-new settings events)

-- ---- numbers

each_rises : (c : Controller) (steps : List Step) → c.next_number ≤ (each step c steps).next.next_number
each_rises c [] = omega arith
each_rises c (s ∷ ss) = omega (arith, (step_keeps_rest c s).numbers, each_rises (step c s).next ss)

-- they go on from the number that is next
pub next_rises : (settings : Parameters) (events : List Event) (event : Event) →
    (world settings events).controller.next_number ≤ (actors_after (world settings events) event).controller.next_number
unfolding life
next_rises settings events event =
    let steps : List Step = all_steps (new_actors settings) events in
    let more : List Step = step_at (world settings events) event in
    let before : (world settings events).controller ≡ (each step (new_controller settings) steps).next = FollowsTable-new settings events in
    let after : (actors_after (world settings events) event).controller ≡ (each step (each step (new_controller settings) steps).next more).next = controller-then settings events event ∙ each-append (new_controller settings) steps more in
    subst (λ (n : ℕ). n ≤ (actors_after (world settings events) event).controller.next_number) (sym (ap (λ (c : Controller). c.next_number) before))
    (subst (λ (n : ℕ). (each step (new_controller settings) steps).next.next_number ≤ n) (sym (ap (λ (c : Controller). c.next_number) after)) (each_rises (each step (new_controller settings) steps).next more))

numbered : (settings : Parameters) (events : List Event) → IsNumbered (world settings events).controller
numbered settings events = subst IsNumbered (sym (FollowsTable-new settings events)) (life_fits settings (all_steps (new_actors settings) events) 1 (omega arith)).numbered

-- a number that is still to be given has no connection
pub none_given : (settings : Parameters) (events : List Event) (number : ℕ) →
    (world settings events).controller.next_number ≤ number →
    connection_of (world settings events).controller number ≡ None
none_given settings events number past = ap (option_map (λ (e : Entry). e.connection)) (find_below number entries (weaker entries (numbered settings events).below)) where
  entries : List Entry
  entries = (world settings events).controller.entries

  weaker : (es : List Entry) →
      AllByRecursion (λ (e : Entry). e.connection.number < (world settings events).controller.next_number) es →
      AllByRecursion (λ (e : Entry). e.connection.number < number) es
  weaker [] all = tt
  weaker (e ∷ es) all = (omega (arith, all.0, past), weaker es all.1)

pub none_given_then : (settings : Parameters) (events : List Event) (event : Event) (number : ℕ) → (actors_after (world settings events) event).controller.next_number ≤ number
    → connection_of (actors_after (world settings events) event).controller number ≡ None
none_given_then settings events event number =
    subst (λ (w : Actors). w.controller.next_number ≤ number → connection_of w.controller number ≡ None) (snoc_actors (new_actors settings) events event) (none_given settings (events ++ event ∷ []) number)

-- and that of a connection is below
pub given_below : (settings : Parameters) (events : List Event) (number : ℕ) (s : Connection) →
    connection_of (world settings events).controller number ≡ Some s →
    number < (world settings events).controller.next_number
given_below settings events number s there = elim (cases_Bool (leb (world settings events).controller.next_number number)) [
  | inl past ↦ absurd (none-some s (sym (none_given settings events number (leb-true (world settings events).controller.next_number number past)) ∙ there))
  | inr below ↦ leb-false (world settings events).controller.next_number number below
]
