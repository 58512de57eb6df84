-- SPDX-License-Identifier: MIT OR Apache-2.0
-- A run of events and one more: what it makes, and what its steps are.
use Rattle.world_laws.proofs.Prelude.{◌≡◌, List, [], ◌∷◌, ◌++◌, refl, sym, ap, ◌∙◌, append_assoc, append-nil, AllByRecursion, new_actors}
use Rattle.world_laws.proofs.Prelude.{AllByRecursion-append, Step, Event, actors_after, actors_after_all, all_steps, step_at, Actors}
use Rattle.world_laws.proofs.Prelude.{Parameters}
use Rattle.world_laws.proofs.Framing.{all_left, all_right}

-- the world after these events
abbrev pub world : Parameters → List Event → Actors
world settings events = actors_after_all (new_actors settings) events

pub snoc_actors : (w : Actors) (xs : List Event) (e : Event) → actors_after_all w (xs ++ e ∷ []) ≡ actors_after (actors_after_all w xs) e
snoc_actors w [] e = refl
snoc_actors w (x ∷ xs) e = snoc_actors (actors_after w x) xs e

pub snoc_steps : (w : Actors) (xs : List Event) (e : Event) →
    all_steps w (xs ++ e ∷ []) ≡ all_steps w xs ++ step_at (actors_after_all w xs) e
snoc_steps w [] e = append-nil (step_at w e)
snoc_steps w (x ∷ xs) e =
    ap (λ (ss : List Step). step_at w x ++ ss) (snoc_steps (actors_after w x) xs e) ∙ sym (append_assoc (step_at w x) (all_steps (actors_after w x) xs) (step_at (actors_after_all (actors_after w x) xs) e))

-- what holds of all steps holds of those before the last event, and of its own
pub split_steps : (P : Step → Type 0) (w : Actors) (xs : List Event) (e : Event) →
    AllByRecursion P (all_steps w (xs ++ e ∷ [])) →
    AllByRecursion P (all_steps w xs) × AllByRecursion P (step_at (actors_after_all w xs) e)
split_steps P w [] e all = (tt, all_left P (step_at w e) [] all)
split_steps P w (x ∷ xs) e all =
    let rest = split_steps P (actors_after w x) xs e (all_right P (step_at w x) (all_steps (actors_after w x) (xs ++ e ∷ [])) all) in
    (AllByRecursion-append P (step_at w x) (all_steps (actors_after w x) xs) (all_left P (step_at w x) (all_steps (actors_after w x) (xs ++ e ∷ [])) all) rest.0, rest.1)
