-- SPDX-License-Identifier: MIT OR Apache-2.0
use Rattle.std.proofs.Common.{◌≡◌, ◌++◌, drop}
use Rattle.std.specs.List.{flat_map}
use Rattle.world_model.specs.Queues.{made_items}
use Rattle.world_trace.specs.declared.crossing.Passage.TheVariants.{Made}
use Rattle.world_trace.specs.Crossings.{up}
use Rattle.world_trace.proofs.made.note_source.Given as goal

abbrev pub invariant-loop-place : goal.invariant-loop-place
invariant-loop-place l = l.crossings.items ++ flat_map (up Made) (drop l.place (made_items l.network l.source))
    ≡ l.fn.crossings.items ++ flat_map (up Made) (drop l.mark (made_items l.network l.source))
