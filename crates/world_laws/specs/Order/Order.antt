-- SPDX-License-Identifier: MIT OR Apache-2.0
-- The order of a run, end to end, and the facts on which it rests.
use Rattle.std.specs.Prelude.{◌≡◌, ℕ, ◌≤◌, false, Option, Some, IsSome, List, []}
use Rattle.std.specs.Prelude.{◌∷◌, ◌++◌}
use Rattle.std.specs.Option.{option_and_then}
use Rattle.world_laws.specs.Prelude.{SWITCH_LINK, AreAllowed, Parameters, Event, actors_after_all}
use Rattle.world_laws.specs.Prelude.{Actors, is_up, modulus_in, new_actors}
use Rattle.world_laws.specs.Runs.{world}
use Rattle.msc_end.specs.Switch.{connection_of}
use Rattle.octets.specs.Lists.{IsPrefix}
use Rattle.world_model.specs.Views.{accepted, progress_of, sent}
use Rattle.world_laws.specs.OthersFrame.{TookOctets}
use Rattle.world_laws.specs.Order.OctetEvents.{AreOctetEvents}
use Rattle.world_laws.specs.Order.Facts.{Holds, HoldsAt}
use Rattle.world_laws.specs.Order.Openers.{first_served}
use Rattle.world_laws.specs.Order.Whereabouts.{OnceDown, Whereabouts}

-- ---- the claim

-- The mobile to which the switch's connection belongs after these events.
abbrev pub opener_of : Actors → List Event → ℕ → Option ℕ
opener_of begin events connection =
    option_and_then (λ c. first_served begin events c.peer)
    (connection_of (actors_after_all begin events).switch.connections connection)

-- The list is a prefix of the messages that the mobile of this connection of the switch sent.
pub record IsBeginningOfSent (begin : Actors) (events : List Event) (connection : ℕ)
    (list : List (List ℕ)) : Type 0 where
  pub mobile : ℕ
  pub opened : opener_of begin events connection ≡ Some mobile
  pub sent_list : List (List ℕ)
  pub is_sent : sent (actors_after_all begin events) mobile ≡ Some sent_list
  pub is_prefix : IsPrefix list sent_list

-- The messages that the switch accepts on a connection are a prefix of those that the connection's
-- mobile sent, and the switch judges no gap.
pub record IsInOrderFor (begin : Actors) (events : List Event) : Type 0 where
  pub in_order : (connection : ℕ) (list : List (List ℕ))
      → accepted (actors_after_all begin events) connection ≡ Some list
      → IsBeginningOfSent begin events connection list
  pub no_gap : (connection : ℕ) (progress : Option ℕ)
      → progress_of (actors_after_all begin events) connection ≡ Some progress → IsSome progress

-- ---- the facts on which the claim rests

-- The facts of each run with these settings in which the controller takes only octets: facts of its
-- world, and of each event after it.
pub record Facts (settings : Parameters) : Type 0 where
  pub holds : (events : List Event) → AreAllowed settings → TookOctets settings events
      → Holds (modulus_in settings) (world settings events)
  pub holds_at : (events : List Event) (event : Event) → AreAllowed settings
      → TookOctets settings (events ++ event ∷ [])
      → HoldsAt (modulus_in settings) (world settings events) event

-- ---- the facts imply the claim

-- If the facts hold, each connection number has a stage.
abbrev pub NumbersAreSomewhere : Parameters → List Event → Type 0
NumbersAreSomewhere settings events =
    (number : ℕ) → Facts settings → AreAllowed settings → TookOctets settings events → 1 ≤ number
    → Whereabouts (modulus_in settings) (world settings events)
    (first_served (new_actors settings) events number) number

abbrev pub RunsAreInOrder : Parameters → List Event → Type 0
RunsAreInOrder settings events =
    Facts settings → AreAllowed settings → TookOctets settings events
    → IsInOrderFor (new_actors settings) events

-- The messages that the switch accepts are in order in each run. Assumes: allowed settings; events
-- carry octets.
abbrev pub AllRunsAreInOrder : Parameters → List Event → Type 0
AllRunsAreInOrder settings events =
    AreAllowed settings → AreOctetEvents events → IsInOrderFor (new_actors settings) events

-- Once the link of the switch is down, a connection number keeps its stage at each event. None of
-- the facts is needed.
abbrev pub CutNumbersRemainCut : Parameters → List Event → Event → Type 0
CutNumbersRemainCut settings events event =
    (number : ℕ) → is_up (world settings events) SWITCH_LINK ≡ false
    → OnceDown (modulus_in settings) (world settings events)
    (first_served (new_actors settings) events number) number
    → OnceDown (modulus_in settings) (world settings (events ++ event ∷ []))
    (first_served (new_actors settings) (events ++ event ∷ []) number) number
