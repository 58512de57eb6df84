-- SPDX-License-Identifier: MIT OR Apache-2.0
-- The invariant of the controller.
use Rattle.std.specs.Prelude.{◌≡◌, ℕ, ◌+◌, ◌^◌, ◌≤◌, Bool, List, length}
use Rattle.std.specs.List.{AllByRecursion}
use Rattle.connections.specs.Entries.{ConnectionsState, IsBelow}
use Rattle.settings.specs.Parameters.{Parameters}

-- The connections have the controller's settings. There is a link for each cell and one more. The
-- next number is above the numbers of all connections, and at most 2^24.
pub record IsConsistent (p : Parameters) (connections : ConnectionsState) (up : List Bool)
    (next : ℕ) : Type 0 where
  pub settings : connections.settings ≡ p
  pub links : length up ≡ length p.cells + 1
  pub below : AllByRecursion (IsBelow next) connections.entries
  pub numbers : next ≤ 2 ^ 24
