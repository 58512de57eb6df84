-- SPDX-License-Identifier: MIT OR Apache-2.0
use Rattle.ho_decision.proofs.Choice.{Wants}
use Rattle.ho_decision.proofs.decision.best.Given as goal

-- the choice among the cells so far
abbrev pub invariant-loop-place : goal.invariant-loop-place
invariant-loop-place l = Wants l.averages.settings l.averages.reports l.place l.choice.decision l.choice.wanted
