-- SPDX-License-Identifier: MIT OR Apache-2.0
use Rattle.ho_decision.specs.Strongest.{IsStrongest}
use Rattle.ho_decision.proofs.strongest.strongest.Given as goal

-- the total over the last reports so far
abbrev pub invariant-loop-back : goal.invariant-loop-back
invariant-loop-back l = IsStrongest l.back l.reports.items l.total
