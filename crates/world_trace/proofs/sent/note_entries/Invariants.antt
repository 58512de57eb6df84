-- SPDX-License-Identifier: MIT OR Apache-2.0
use Rattle.std.proofs.Common.{◌≡◌, ◌++◌, drop, map}
use Rattle.world_model.specs.World.{outbox_of}
use Rattle.world_trace.specs.declared.crossing.Passage.TheVariants.{Sent}
use Rattle.world_trace.specs.Crossings.{down}
use Rattle.world_trace.proofs.sent.note_entries.Given as goal

-- what is noted, with the entries that are left, is what was there with all of them
abbrev pub invariant-loop-place : goal.invariant-loop-place
invariant-loop-place l = l.crossings.items ++ map (down Sent) (drop l.place (outbox_of l.network l.link)) ≡ l.fn.crossings.items ++ map (down Sent) (drop l.mark (outbox_of l.network l.link))
