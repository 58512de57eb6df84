-- SPDX-License-Identifier: MIT OR Apache-2.0
-- The numbers of connections.
use Rattle.std.specs.Prelude.{ℕ, ◌≤◌, ◌<◌, List, [], ◌∷◌}
use Rattle.std.specs.List.{AllByRecursion}
use Rattle.controller_model.specs.Controller.{Controller, Entry}

abbrev pub IsBelow : ℕ → Entry → Type 0
IsBelow number e = e.connection.number < number

abbrev pub IsAbove : ℕ → Entry → Type 0
IsAbove number e = number < e.connection.number

-- the numbers rise
abbrev pub AreRising : List Entry → Type 0
AreRising [] = Unit {0}
AreRising (e ∷ es) = AllByRecursion (IsAbove e.connection.number) es × AreRising es

-- the numbers are at least 1, rise, and are below the number of the next connection
pub record IsNumbered (c : Controller) : Type 0 where
  pub rising : AreRising c.entries
  pub below : AllByRecursion (IsBelow c.next_number) c.entries
  pub above : AllByRecursion (IsAbove 0) c.entries
  pub next : 1 ≤ c.next_number
