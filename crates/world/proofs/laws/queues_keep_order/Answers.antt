-- SPDX-License-Identifier: MIT OR Apache-2.0
use Rattle.world.proofs.ControlledQueues.{QueuesKeepOrder-reached}
use Rattle.world.proofs.laws.queues_keep_order.Goals as goal

pub returns : goal.returns
returns c = QueuesKeepOrder-reached
