-- SPDX-License-Identifier: MIT OR Apache-2.0
-- The acknowledgements of a channel that the controller took or that are on their way, whether the
-- link of the channel's station is up or down.
use Rattle.std.specs.Prelude.{◌≤◌, false, List, ◌++◌, length}
use Rattle.world_laws.specs.Prelude.{Place, Rsl, Parameters, Event, new_actors}
use Rattle.world_laws.specs.Runs.{world}
use Rattle.octets.specs.Lists.{IsPrefix}
use Rattle.world_model.specs.Pipe.{due}
use Rattle.world_model.specs.Queues.{all_popped, all_put}
use Rattle.world_laws.specs.Acknowledged.{acknowledgements_taken, acknowledgements_up}

-- the acknowledgements of a channel that the controller took, followed by those on their way
abbrev pub acknowledgements_of : Parameters → List Event → Place → List Rsl
acknowledgements_of settings events at =
    acknowledgements_taken at (all_popped (new_actors settings) events)
    ++ acknowledgements_up (world settings events) at

-- The acknowledgements of a channel that the controller took, followed by those on their way up,
-- are a prefix of those due for all that the controller put for the station.
abbrev pub AcksBegin : Parameters → List Event → Type 0
AcksBegin settings events =
    (at : Place) → 1 ≤ at.station → at.station ≤ length settings.cells
    → IsPrefix (acknowledgements_of settings events at)
    (due at.number false (all_put at.station (new_actors settings) events))
