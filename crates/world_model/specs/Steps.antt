-- SPDX-License-Identifier: MIT OR Apache-2.0
-- The steps of a world's controller, and its outputs.
use Rattle.std.specs.Prelude.{◌≡◌, List, [], ◌∷◌, ◌++◌, map}
use Rattle.conn_messages.specs.declared.out.Out.{Out}
use Rattle.controller_model.specs.declared.step.Step.{Step}
use Rattle.controller_model.specs.declared.step.Step.TheVariants as steps
use Rattle.controller_model.specs.Controller.{Turn, turn}
use Rattle.controller_model.specs.Life.{life}
use Rattle.ruled_relay.specs.declared.item.Item.{Item}
use Rattle.settings.specs.Parameters.{Parameters}
use Rattle.world_model.specs.declared.event.Event.{Event}
use Rattle.world_model.specs.declared.event.Event.TheVariants.{Handle, Tick}
use Rattle.world_model.specs.Life.{actors_after, actors_after_all}
use Rattle.world_model.specs.Queues.{outputs}
use Rattle.world_model.specs.World.{Actors, new_actors}

-- the step that takes the first item of the inbox; no step if the inbox is empty
abbrev pub first_taken : List Item → List Step
first_taken [] = []
first_taken (item ∷ items) = steps.Take item ∷ []

-- the step of the controller at an event, if any
abbrev pub step_at : Actors → Event → List Step
step_at w Handle = first_taken w.inbox
step_at w (Tick ms) = steps.Tick ms ∷ []
step_at w _ = []

-- the steps at these events, in order: the items taken and the time that passed
abbrev pub all_steps : Actors → List Event → List Step
all_steps w [] = []
all_steps w (event ∷ events) = step_at w event ++ all_steps (actors_after w event) events

-- the outputs of the controller at these events
abbrev pub all_outputs : Actors → List Event → List Out
all_outputs w [] = []
all_outputs w (event ∷ events) =
    map (λ entry. entry.out) (outputs w event) ++ all_outputs (actors_after w event) events

-- the controller after these events, and its outputs at them
abbrev pub controller_run : Actors → List Event → Turn
controller_run w events = turn (all_outputs w events) (actors_after_all w events).controller

-- after these events the controller has the state that its own model gives after its steps
abbrev pub FollowsTable : Parameters → List Event → Type 0
FollowsTable settings events =
    (actors_after_all (new_actors settings) events).controller
    ≡ (life settings (all_steps (new_actors settings) events)).next

-- the controller's state and its outputs are those that its own model gives for its steps
abbrev pub RunsByTable : Parameters → List Event → Type 0
RunsByTable settings events =
    controller_run (new_actors settings) events
    ≡ life settings (all_steps (new_actors settings) events)
