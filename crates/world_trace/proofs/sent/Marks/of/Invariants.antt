-- SPDX-License-Identifier: MIT OR Apache-2.0
use Rattle.world_trace.proofs.Noting.{MarksBelow}
use Rattle.world_trace.proofs.sent.Marks.of.Given as goal

abbrev pub invariant-loop-link : goal.invariant-loop-link
invariant-loop-link l = MarksBelow l.network l.link l.outboxes.items
