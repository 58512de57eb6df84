-- SPDX-License-Identifier: MIT OR Apache-2.0
-- The state of the judge with its trial.
use Rattle.std.specs.Prelude.{Option}
use Rattle.run_judge.specs.Judging.{Judging}
use Rattle.judge_orders.specs.TrialState.{TrialState}

pub record OrdersState : Type 0 where
  pub judging : Judging
  -- the pending trial of two orders
  pub trial : Option TrialState
