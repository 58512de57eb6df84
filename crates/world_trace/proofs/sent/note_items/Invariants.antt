-- SPDX-License-Identifier: MIT OR Apache-2.0
use Rattle.std.proofs.Common.{◌≡◌, ◌++◌, drop}
use Rattle.std.specs.List.{flat_map}
use Rattle.world_trace.specs.declared.crossing.Passage.TheVariants.{Sent}
use Rattle.world_trace.specs.Crossings.{up}
use Rattle.world_trace.proofs.sent.note_items.Given as goal

-- what is noted, with the items that are left, is what was there with all of them
abbrev pub invariant-loop-place : goal.invariant-loop-place
invariant-loop-place l = l.crossings.items ++ flat_map (up Sent) (drop l.place l.network.inbox) ≡ l.fn.crossings.items ++ flat_map (up Sent) (drop l.mark l.network.inbox)
