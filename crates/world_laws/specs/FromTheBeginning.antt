-- SPDX-License-Identifier: MIT OR Apache-2.0
-- Properties of each world of a run, whatever happened.
use Rattle.std.specs.Prelude.{◌≡◌, ℕ, List, Some}
use Rattle.world_laws.specs.Prelude.{Place, Connection, IsValid, connection_of, Parameters, Event}
use Rattle.world_laws.specs.Runs.{world}
use Rattle.world_laws.specs.LineUp.Places.{messages_in}
use Rattle.world_laws.specs.ComingUp.{coming_up}
use Rattle.world_laws.specs.ToArrive.{AreLayer3}

-- Each connection of the controller is valid: it has a form in which the table leaves connections.
abbrev pub ConnectionsAreValid : Parameters → List Event → Type 0
ConnectionsAreValid settings events =
    (number : ℕ) (s : Connection) → connection_of (world settings events).controller number ≡ Some s
    → IsValid s

-- The messages on their way up from a channel are whole: each has 1 to 251 octets.
abbrev pub MessagesAreWhole : Parameters → List Event → Type 0
MessagesAreWhole settings events =
    (at : Place) → AreLayer3 (messages_in (coming_up (world settings events) at))
