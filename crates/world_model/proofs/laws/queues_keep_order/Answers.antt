-- SPDX-License-Identifier: MIT OR Apache-2.0
use Rattle.world_model.proofs.Outboxes.{KeepsQueues-new}
use Rattle.world_model.proofs.laws.queues_keep_order.Goals as goal

pub returns : goal.returns
returns c = KeepsQueues-new
