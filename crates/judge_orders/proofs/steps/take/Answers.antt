-- SPDX-License-Identifier: MIT OR Apache-2.0
use Rattle.judge_orders.specs.Steps.{after, ended_by}
use Rattle.judge_orders.proofs.steps.take.Goals as goal

pub returns-clause-after : goal.returns-clause-after
unfolding after
returns-clause-after c = c.take.ensures.after

pub returns-clause-ended : goal.returns-clause-ended
unfolding ended_by
returns-clause-ended c = c.take.ensures.ended
