-- SPDX-License-Identifier: MIT OR Apache-2.0
-- The state of a connection.
use Rattle.std.specs.Prelude.{ℕ, Bool, List, Option}
use Rattle.run_judge.specs.declared.connection.Awaited.{Awaited}
use Rattle.run_judge.specs.declared.connection.Counts.{Counts}
use Rattle.run_judge.specs.declared.connection.Flows.{Flows}
use Rattle.run_judge.specs.declared.connection.Tenure.{Tenure}
use Rattle.run_judge.specs.declared.connection.Unjudged.{Unjudged}

pub record ConnectionState : Type 0 where
  pub number : ℕ
  pub reference : ℕ
  pub switch : Option ℕ
  pub serving : Tenure
  pub former : List Tenure
  pub awaited : Option Awaited
  pub up : Flows
  pub down : Flows
  pub is_cleared : Bool
  pub counts : Counts
  pub progress : Option ℕ
  pub outside : Option ℕ
  pub mobile : Option ℕ
  pub unjudged : Option Unjudged
