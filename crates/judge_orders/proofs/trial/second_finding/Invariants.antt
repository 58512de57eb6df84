-- SPDX-License-Identifier: MIT OR Apache-2.0
use Rattle.std.proofs.Common.{◌≡◌, drop, fold}
use Rattle.judge_orders.specs.Finding.{worse}
use Rattle.judge_orders.specs.Trial.{second_finding, tried_with}
use Rattle.judge_orders.proofs.trial.second_finding.Given as goal

abbrev pub invariant-loop-t : goal.invariant-loop-t
invariant-loop-t l =
    fold (λ found t. worse found (tried_with t.second)) l.finding (drop l.t-index l.tried) ≡ second_finding l.tried
