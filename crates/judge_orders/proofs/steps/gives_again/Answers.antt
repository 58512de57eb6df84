-- SPDX-License-Identifier: MIT OR Apache-2.0
use Rattle.judge_orders.specs.Steps.{gives_again}
use Rattle.judge_orders.proofs.steps.gives_again.Goals as goal

pub returns : goal.returns
unfolding gives_again
returns c = c.gives_again.ensures
