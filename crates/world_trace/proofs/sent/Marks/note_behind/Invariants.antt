-- SPDX-License-Identifier: MIT OR Apache-2.0
use Rattle.std.proofs.Common.{◌≡◌, ◌++◌, drop}
use Rattle.std.specs.List.{flat_map}
use Rattle.world_trace.specs.declared.crossing.Passage.TheVariants.{Sent}
use Rattle.world_trace.specs.Crossings.{up}
use Rattle.world_trace.specs.Marks.{behind_below}
use Rattle.world_trace.proofs.sent.Marks.note_behind.Given as goal

abbrev pub invariant-loop-link : goal.invariant-loop-link
invariant-loop-link l = l.crossings.items ≡ l.fn.crossings.items ++ (flat_map (up Sent) (drop l.self.inbox l.network.inbox) ++ behind_below l.link l.self.outboxes.items l.network)
