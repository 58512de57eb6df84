-- SPDX-License-Identifier: MIT OR Apache-2.0
-- The state of a flow.
use Rattle.std.specs.Prelude.{ℕ}
use Rattle.run_judge.specs.declared.flow.Order.{Order}

pub record FlowState : Type 0 where
  -- the number of messages that arrived, and the number of messages that were passed on
  pub came : ℕ
  pub gone : ℕ
  pub order : Order
