-- SPDX-License-Identifier: MIT OR Apache-2.0
-- The state of a flow's messages while the flow has no fault.
use Rattle.std.specs.Prelude.{ℕ, List}
use Rattle.run_judge.specs.declared.flow.Due.{Due}
use Rattle.run_judge.specs.declared.flow.Passed.{Passed}

pub record StreamState : Type 0 where
  -- the due messages, sorted by rank and within a rank by arrival
  pub due : List Due
  pub passed : List Passed
  -- the highest rank of a message that was passed on; 0 at first
  pub reached : ℕ
