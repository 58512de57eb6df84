-- SPDX-License-Identifier: MIT OR Apache-2.0
-- A law of runs is about any settings and any list of events from a new world on.
use Rattle.std.specs.Prelude.{ℕ, List}
use Rattle.world_laws.specs.Prelude.{Parameters, Event, Actors, actors_after_all, new_actors}

-- The actors after these events, from a new world with these settings on.
abbrev pub world : Parameters → List Event → Actors
world settings events = actors_after_all (new_actors settings) events

-- The law holds for all settings, whatever events happened.
abbrev pub OfRuns : (Parameters → List Event → Type 0) → Type 0
OfRuns Law = (settings : Parameters) (events : List Event) → Law settings events

-- The law holds for all settings, whatever events happened and whatever event happens next.
abbrev pub AtEvents : (Parameters → List Event → Event → Type 0) → Type 0
AtEvents Law =
    (settings : Parameters) (events : List Event) (event : Event) → Law settings events event

-- The law holds for all settings, whatever events happened, and for each number: that of a station,
-- or a count of milliseconds that pass.
abbrev pub OfNumbers : (Parameters → List Event → ℕ → Type 0) → Type 0
OfNumbers Law =
    (settings : Parameters) (events : List Event) (number : ℕ) → Law settings events number
