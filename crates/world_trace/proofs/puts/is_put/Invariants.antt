-- SPDX-License-Identifier: MIT OR Apache-2.0
use Rattle.std.proofs.Common.{◌≡◌, drop}
use Rattle.world_trace.specs.Notes.{is_put}
use Rattle.world_trace.proofs.puts.is_put.Given as goal

abbrev pub invariant-loop-crossing : goal.invariant-loop-crossing
invariant-loop-crossing l = is_put l.way (drop l.crossing-index l.crossings) ≡ is_put l.way l.crossings
