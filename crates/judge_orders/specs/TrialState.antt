-- SPDX-License-Identifier: MIT OR Apache-2.0
-- The state of a trial of two orders.
use Rattle.std.specs.Prelude.{ℕ, List, Option}
use Rattle.judge_orders.specs.declared.trial.Tried.{Tried}
use Rattle.run_judge.specs.declared.apart.Pair.{Pair}
use Rattle.run_judge.specs.Judging.{Judging}

pub record TrialState : Type 0 where
  -- the initial message that came on both channels
  pub message : List ℕ
  pub pair : Pair
  -- by the first order the first connection began on `one`, by the second order on `other`
  pub first : Judging
  pub second : Judging
  -- the number of the first connection, and the number of the second connection, from its CR on
  pub number : ℕ
  pub next : Option ℕ
  -- the connections of the trial that ended
  pub ended : List Tried
