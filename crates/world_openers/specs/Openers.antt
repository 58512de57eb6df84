-- SPDX-License-Identifier: MIT OR Apache-2.0
-- The messages that the switch took on a connection begin with the message with which the
-- connection's opener connected.
use Rattle.std.specs.Prelude.{◌≡◌, ℕ, List, ◌∷◌, Some, None}
use Rattle.settings.specs.Parameters.{AreAllowed, Parameters}
use Rattle.world_laws.specs.Order.OctetEvents.{AreOctetEvents}
use Rattle.world_laws.specs.Order.Order.{opener_of}
use Rattle.world_laws.specs.Runs.{world}
use Rattle.world_model.specs.declared.event.Event.{Event}
use Rattle.world_model.specs.Life.{actors_after_all}
use Rattle.world_model.specs.Views.{taken}
use Rattle.world_model.specs.World.{Actors, new_actors}
use Rattle.world_openers.specs.Initials.{initial_at, initial_of}

-- ---- a mobile connects once

-- a mobile that connected at one of these events doesn't connect at the next event
abbrev pub MobilesConnectOnce : Parameters → List Event → Event → Type 0
MobilesConnectOnce settings events event =
    (mobile : ℕ) (initial : List ℕ) → initial_of (new_actors settings) events mobile ≡ Some initial
    → initial_at (world settings events) event mobile ≡ None

-- ---- the message with which a mobile connected

-- the list begins with the message with which the mobile of this connection of the switch connected
pub record BeginsWithMessage (begin : Actors) (events : List Event) (connection : ℕ)
    (list : List (List ℕ)) : Type 0 where
  pub mobile : ℕ
  pub opened : opener_of begin events connection ≡ Some mobile
  pub initial : List ℕ
  pub connected : initial_of begin events mobile ≡ Some initial
  pub others : List (List ℕ)
  pub first : list ≡ initial ∷ others

-- the messages that the switch took on each connection begin with the message with which the
-- connection's mobile connected
abbrev pub OpenersMessageIsFirst : Actors → List Event → Type 0
OpenersMessageIsFirst begin events =
    (connection : ℕ) (list : List (List ℕ))
    → taken (actors_after_all begin events) connection ≡ Some list
    → BeginsWithMessage begin events connection list

-- `OpenersMessageIsFirst` holds for all events from a new world on. Assumes: allowed settings;
-- events carry octets.
abbrev pub OpenersMessagesAreFirst : Parameters → List Event → Type 0
OpenersMessagesAreFirst settings events =
    AreAllowed settings → AreOctetEvents events → OpenersMessageIsFirst (new_actors settings) events
