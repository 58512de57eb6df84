-- SPDX-License-Identifier: MIT OR Apache-2.0
-- The connections that are reported at the end of the capture.
use Rattle.std.specs.Prelude.{◌≡◌, ℕ, List, map, nat_eq, Option, Some, None}
use Rattle.std.specs.List.{IsDistinct}
use Rattle.std.specs.List.Sorted.{IsNonDecreasingBy, IsPermutation}
use Rattle.std.specs.Map.{keys_of, values_of}
use Rattle.run_judge.specs.ConnectionState.{ConnectionState}
use Rattle.run_judge.specs.JudgeState.{entries_at}
use Rattle.run_judge.specs.Judging.{Judging}
use Rattle.judge_orders.specs.declared.judged.Judged.{Judged}
use Rattle.judge_orders.specs.Judged.{alone}
use Rattle.judge_orders.specs.OrdersState.{OrdersState}
use Rattle.judge_orders.specs.Trial.{left_judged}
use Rattle.judge_orders.specs.TrialState.{TrialState}

-- The list has the open connections, sorted by number.
pub record AreLeft (j : Judging) (left : List ConnectionState) : Type 0 where
  -- the same connections with the controller's references, in any order
  pub entries : List (ℕ × ConnectionState)
  pub once : IsDistinct nat_eq (keys_of entries)
  pub each : (reference : ℕ) → entries_at entries reference ≡ j.connections reference
  pub all : IsPermutation (values_of entries) left
  pub by_number : IsNonDecreasingBy (λ c. c.number) left

-- the connections of a trial stand before all others
abbrev pub judged_in_the_end : Option TrialState → List ConnectionState → List Judged
judged_in_the_end None left = map alone left
judged_in_the_end (Some t) left = left_judged t left

-- The list has the verdicts of the open connections and of a pending trial.
pub record IsLeft (o : OrdersState) (judged : List Judged) : Type 0 where
  pub left : List ConnectionState
  pub are : AreLeft o.judging left
  pub is : judged ≡ judged_in_the_end o.trial left
