-- SPDX-License-Identifier: MIT OR Apache-2.0
use Rattle.std.proofs.Common.{◌≤◌, ◌-◌, length}
use Rattle.connections.proofs.index.search_from.Given as goal

abbrev pub invariant-loop-from : goal.invariant-loop-from
invariant-loop-from l = l.from ≤ length l.pairs - 1

abbrev pub decreases-loop-from : goal.decreases-loop-from
decreases-loop-from l = l.from
