-- SPDX-License-Identifier: MIT OR Apache-2.0
-- The controller of a world after one event more.
use Rattle.world_laws.proofs.Prelude.{◌≡◌, List, [], ◌∷◌, ◌++◌, refl, sym, ap, ◌∙◌, Step, Controller, each, new_controller, step}
use Rattle.world_laws.proofs.Prelude.{Parameters, Event, actors_after, all_steps, step_at, Actors, new_actors, FollowsTable-new}
use Rattle.controller_model.specs.Life.{life}
use Rattle.world_laws.proofs.Events.{snoc_actors, snoc_steps, world}

pub each-append : (c : Controller) (xs ys : List Step) → (each step c (xs ++ ys)).next ≡ (each step (each step c xs).next ys).next
each-append c [] ys = refl
each-append c (x ∷ xs) ys = each-append (step c x).next xs ys

life-append : (p : Parameters) (xs ys : List Step) → (life p (xs ++ ys)).next ≡ (each step (life p xs).next ys).next
unfolding life
life-append p xs ys = each-append (new_controller p) xs ys

-- the controller as the life of its steps
abbrev pub lived : Parameters → List Event → Controller
lived settings events = (life settings (all_steps (new_actors settings) events)).next

pub moves : (settings : Parameters) (events : List Event) (event : Event) →
    (actors_after (world settings events) event).controller ≡ (each step (lived settings events) (step_at (world settings events) event)).next
moves settings events event =
    sym (ap (λ (v : Actors). v.controller) (snoc_actors (new_actors settings) events event)) ∙ FollowsTable-new settings (events ++ event ∷ [])
    ∙ ap (λ (ss : List Step). (life settings ss).next) (snoc_steps (new_actors settings) events event)
    ∙ life-append settings (all_steps (new_actors settings) events) (step_at (world settings events) event)
