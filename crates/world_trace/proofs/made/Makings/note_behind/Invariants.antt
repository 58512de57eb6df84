-- SPDX-License-Identifier: MIT OR Apache-2.0
use Rattle.std.proofs.Common.{◌≡◌, ◌++◌}
use Rattle.world_trace.specs.Makings.{made_behind_below}
use Rattle.world_trace.proofs.made.Makings.note_behind.Given as goal

abbrev pub invariant-loop-source : goal.invariant-loop-source
invariant-loop-source l = l.crossings.items ≡ l.fn.crossings.items ++ made_behind_below l.source l.self.counts.items l.network
