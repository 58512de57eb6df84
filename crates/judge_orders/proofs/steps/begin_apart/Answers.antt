-- SPDX-License-Identifier: MIT OR Apache-2.0
use Rattle.judge_orders.specs.Steps.{begun_apart}
use Rattle.judge_orders.proofs.steps.begin_apart.Goals as goal

pub returns : goal.returns
unfolding begun_apart
returns c = c.begin_apart.ensures
