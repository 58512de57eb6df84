-- SPDX-License-Identifier: MIT OR Apache-2.0
use Rattle.std.proofs.Common.{◌≡◌, drop, fold}
use Rattle.judge_orders.specs.Finding.{worse}
use Rattle.judge_orders.specs.Trial.{first_finding, tried_with}
use Rattle.judge_orders.proofs.trial.first_finding.Given as goal

abbrev pub invariant-loop-t : goal.invariant-loop-t
invariant-loop-t l =
    fold (λ found t. worse found (tried_with t.first)) l.finding (drop l.t-index l.tried) ≡ first_finding l.tried
