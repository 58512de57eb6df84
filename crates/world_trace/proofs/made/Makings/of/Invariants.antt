-- SPDX-License-Identifier: MIT OR Apache-2.0
use Rattle.std.proofs.Common.{length}
use Rattle.world_model.specs.Queues.{made_items}
use Rattle.world_trace.proofs.Walking.{Below}
use Rattle.world_trace.proofs.made.Makings.of.Given as goal

abbrev pub invariant-loop-source : goal.invariant-loop-source
invariant-loop-source l = Below (λ n. length (made_items l.network n)) l.source l.counts.items
