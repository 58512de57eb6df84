-- SPDX-License-Identifier: MIT OR Apache-2.0
-- The message that a mobile connected with, event by event.
use Rattle.std.proofs.Common.{◌≡◌, ℕ, List, [], ◌∷◌, ◌++◌, Option, Some, None, refl, ap, ◌∙◌}
use Rattle.std.specs.Option.{option_or}
use Rattle.world_model.specs.declared.event.Event.{Event}
use Rattle.world_model.specs.Life.{actors_after, actors_after_all}
use Rattle.world_model.specs.World.{Actors}
use Rattle.world_openers.specs.Initials.{initial_at, initial_of}

or_none : {X : Type 0} (o : Option X) → option_or o None ≡ o
or_none None = refl
or_none (Some x) = refl

or_assoc : {X : Type 0} (a b c : Option X) → option_or a (option_or b c) ≡ option_or (option_or a b) c
or_assoc None b c = refl
or_assoc (Some x) b c = refl

-- one event more
pub snoc_initial : (w : Actors) (events : List Event) (event : Event) (mobile : ℕ)
    → initial_of w (events ++ event ∷ []) mobile ≡ option_or (initial_of w events mobile)
    (initial_at (actors_after_all w events) event mobile)
snoc_initial w [] event mobile = or_none (initial_at w event mobile)
snoc_initial w (x ∷ xs) event mobile =
    ap (option_or (initial_at w x mobile)) (snoc_initial (actors_after w x) xs event mobile)
    ∙ or_assoc (initial_at w x mobile) (initial_of (actors_after w x) xs mobile)
    (initial_at (actors_after_all (actors_after w x) xs) event mobile)

-- it remains the message
pub initial_remains : (w : Actors) (events : List Event) (event : Event) (mobile : ℕ) (initial : List ℕ)
    → initial_of w events mobile ≡ Some initial → initial_of w (events ++ event ∷ []) mobile ≡ Some initial
initial_remains w events event mobile initial is =
    snoc_initial w events event mobile ∙ ap (λ (o : Option (List ℕ)). option_or o (initial_at (actors_after_all w events) event mobile)) is
