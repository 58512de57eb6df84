-- SPDX-License-Identifier: MIT OR Apache-2.0
-- A connection that is closed or removed puts no more messages for the switch.
use Rattle.std.specs.Prelude.{ℕ, ◌≤◌, ◌<◌, List}
use Rattle.std.specs.List.{AllByRecursion}
use Rattle.world_laws.specs.Prelude.{IsThere, connection_of, IsOctetStep, AreAllowed, Parameters}
use Rattle.world_laws.specs.Prelude.{Event, actors_after}
use Rattle.world_laws.specs.Prelude.{Actors}
use Rattle.world_laws.specs.Runs.{world}
use Rattle.world_model.specs.Steps.{step_at}
use Rattle.world_laws.specs.Ended.{PutsNoMore}
use Rattle.world_laws.specs.OthersFrame.{TookOctets}

-- The connection existed, and is closed or removed.
pub record IsOver (w : Actors) (number : ℕ) : Type 0 where
  pub past : number < w.controller.next_number
  pub closed : IsThere (connection_of w.controller number) → ⊥

-- All that the controller takes at this event is octets.
abbrev pub TakesOctets : Actors → Event → Type 0
TakesOctets w event = AllByRecursion IsOctetStep (step_at w event)

-- Whatever happened before, a connection that is over puts no message of its mobile for the switch
-- at an event, and remains over. Assumes: allowed settings; the controller took only octets, at
-- this event too.
abbrev pub OverPutsNoMore : Parameters → List Event → Event → Type 0
OverPutsNoMore settings events event =
    (number : ℕ) → AreAllowed settings → TookOctets settings events
    → TakesOctets (world settings events) event → 1 ≤ number
    → IsOver (world settings events) number
    → PutsNoMore (world settings events) number event
    × IsOver (actors_after (world settings events) event) number
