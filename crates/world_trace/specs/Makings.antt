-- SPDX-License-Identifier: MIT OR Apache-2.0
-- The items that stations and the switch make for the controller at an event. An item waits at the
-- source that made it until it is pushed.
use Rattle.std.specs.Prelude.{◌≡◌, ℕ, zero, suc, ◌<◌, min, List, [], ◌++◌, length, drop}
use Rattle.std.specs.Prelude.{slice_index, if◌then◌else◌}
use Rattle.std.specs.List.{flat_map}
use Rattle.world_model.specs.declared.event.Event.{Event}
use Rattle.world_model.specs.Life.{actors_after}
use Rattle.world_model.specs.Queues.{made_items}
use Rattle.world_model.specs.World.{Actors}
use Rattle.world_trace.specs.declared.crossing.Crossing.{Crossing}
use Rattle.world_trace.specs.declared.crossing.Passage.TheVariants.{Made}
use Rattle.world_trace.specs.declared.made.Makings.{Makings}
use Rattle.world_trace.specs.declared.made.TheConstants.{SOURCE_LIMIT}
use Rattle.world_trace.specs.Crossings.{up}
use Rattle.world_trace.specs.Turns.{is_turn}

-- the number of sources, including the switch, but at most `SOURCE_LIMIT`
abbrev pub sources : Actors → ℕ
sources w = min (length w.links) SOURCE_LIMIT

-- the items that a source made, without its first `count` items
abbrev pub made_past : ℕ → Actors → ℕ → List Crossing
made_past count w source = flat_map (up Made) (drop count (made_items w source))

-- the items that a source makes at an event; empty if the event takes the source's first item
abbrev pub made_by : Actors → Event → ℕ → List Crossing
made_by w event source = made_past (length (made_items w source)) (actors_after w event) source

-- the items that the sources whose numbers are below a bound make, source by source
abbrev pub made_below : ℕ → Actors → Event → List Crossing
made_below zero w event = []
made_below (suc source) w event = made_below source w event ++ made_by w event source

abbrev pub made_at : Actors → Event → List Crossing
made_at w event = made_below (sources w) w event

-- ---- the items that sources make, from the counts of items before the event

-- the number of sources that may make something at an event: 0 if the event is the controller's
-- turn
abbrev pub sources_at : Actors → Event → ℕ
sources_at w event = if is_turn event then 0 else sources w

pub record AreMakings (w : Actors) (event : Event) (makings : Makings) : Type 0 where
  pub count : length makings.counts.items ≡ sources_at w event
  pub each : (source : ℕ) → source < length makings.counts.items
      → slice_index makings.counts.items source ≡ length (made_items w source)

abbrev pub made_behind_below : ℕ → List ℕ → Actors → List Crossing
made_behind_below zero counts w = []
made_behind_below (suc source) counts w =
    made_behind_below source counts w ++ made_past (slice_index counts source) w source

abbrev pub made_behind : Makings → Actors → List Crossing
made_behind makings w =
    made_behind_below (length makings.counts.items) makings.counts.items w
