-- SPDX-License-Identifier: MIT OR Apache-2.0
-- Each tenure of a channel has one mobile as its owner: the mobile for which the channel was
-- activated.
use Rattle.std.specs.Prelude.{List}
use Rattle.world_laws.specs.Prelude.{AreAllowed, Parameters, Event, new_actors}
use Rattle.world_laws.specs.Runs.{world}
use Rattle.world_model.specs.Owners.{owner_in}
use Rattle.world_model.specs.Tickets.{AllAreBy, AllSitBy, OneMobileEach, senders}
use Rattle.world_laws.specs.OthersFrame.{TookOctets}

-- Whatever happens, the entries that stations take agree with this ownership.
abbrev pub TenuresAreOwned : Parameters → List Event → Type 0
TenuresAreOwned settings events =
    AreAllowed settings → TookOctets settings events
    → AllAreBy (owner_in (new_actors settings) events) (new_actors settings) events

-- A mobile is on a tenure, or was commanded to a tenure, only if the mobile owns the tenure.
abbrev pub MobilesSitOnTheirs : Parameters → List Event → Type 0
MobilesSitOnTheirs settings events =
    AreAllowed settings → TookOctets settings events
    → AllSitBy (owner_in (new_actors settings) events) (world settings events)

-- In each tenure at most one mobile sends.
abbrev pub OneSendsEach : Parameters → List Event → Type 0
OneSendsEach settings events =
    AreAllowed settings → TookOctets settings events
    → OneMobileEach (senders (new_actors settings) events)
