-- SPDX-License-Identifier: MIT OR Apache-2.0
use Rattle.judge_orders.specs.Steps.{beginnings}
use Rattle.judge_orders.proofs.steps.beginnings.Goals as goal

pub returns : goal.returns
unfolding beginnings
returns c = c.beginnings.ensures
