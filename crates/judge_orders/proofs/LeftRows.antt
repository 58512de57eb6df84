-- SPDX-License-Identifier: MIT OR Apache-2.0
-- Rows: in which order connections stand that are left.
use Rattle.std.proofs.Common.{◌≡◌, ℕ, ◌≤◌, ◌<◌, zero, suc, List, [], ◌∷◌, slice_index_or, refl, arith}
use Rattle.std.specs.List.{IsDistinct}
use Rattle.run_judge.specs.Connection.{begun_with}
use Rattle.run_judge.specs.ConnectionState.{ConnectionState}
use Rattle.run_judge.specs.Flow.{new_flow}
use Rattle.run_judge.specs.JudgeState.{entries_at}
use Rattle.run_judge.specs.Judging.{Judging, new_judging}
use Rattle.judge_orders.specs.Left.{AreLeft}

-- of no message, on channel 41 of station 1
abbrev connection : ℕ → ℕ → ConnectionState
connection number reference = begun_with number reference (record { station = 1; number = 0x41 }) (record { zero = new_flow; three = new_flow })

-- the second one has the lesser reference
abbrev two_open : Judging
two_open = record (new_judging 4 []) { connections = entries_at ((7, connection 2 7) ∷ (9, connection 1 9) ∷ []) }

in_order : (i j : ℕ) (d : ConnectionState) →
    i ≤ j →
    j < 2 →
    (slice_index_or (connection 1 9 ∷ connection 2 7 ∷ []) i d).number ≤ (slice_index_or (connection 1 9 ∷ connection 2 7 ∷ []) j d).number
in_order zero zero d less within = omega arith
in_order zero (suc zero) d less within = omega arith
in_order (suc zero) zero d less within = absurd (omega arith)
in_order (suc zero) (suc zero) d less within = omega arith
in_order (suc (suc i)) zero d less within = absurd (omega arith)
in_order (suc (suc i)) (suc zero) d less within = absurd (omega arith)
in_order i (suc (suc j)) d less within = absurd (omega arith)

by_numbers : AreLeft two_open (connection 1 9 ∷ connection 2 7 ∷ [])
unfolding IsDistinct
by_numbers = record {
  entries = (7, connection 2 7) ∷ (9, connection 1 9) ∷ [];
  once = ((refl, tt), (tt, tt));
  each = λ reference. refl;
  all = record { moves = (0, 1) ∷ []; below = ((omega arith), (omega arith), tt); is = refl };
  by_number = in_order;
}

-- not by their references
by_references : AreLeft two_open (connection 2 7 ∷ connection 1 9 ∷ []) → ⊥
by_references left = (let falls = left.by_number 0 1 (connection 1 9) (omega arith) (omega arith) in never falls)
  where
    never : 2 ≤ 1 → ⊥
    never less = omega arith
