-- SPDX-License-Identifier: MIT OR Apache-2.0
use Rattle.judge_orders.specs.Steps.{waits_on}
use Rattle.judge_orders.proofs.steps.waits_on.Goals as goal

pub returns : goal.returns
unfolding waits_on
returns c = c.waits_on.ensures
