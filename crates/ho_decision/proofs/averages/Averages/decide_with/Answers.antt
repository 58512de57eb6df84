-- SPDX-License-Identifier: MIT OR Apache-2.0
-- If the levels aren't compared, the decision is `Stay`.
use Rattle.std.proofs.Common.{sym, subst, ◌∙◌}
use Rattle.ho_decision.specs.Settings.{IsAllowed}
use Rattle.ho_decision.proofs.Ten.{stays_after}
use Rattle.ho_decision.proofs.averages.Averages.decide_with.Goals as goal

pub returns-then-not-is_due_with-clause-decides : goal.returns-then-not-is_due_with-clause-decides
returns-then-not-is_due_with-clause-decides c =
    stays_after c.args.self.now c.args.report.now c.args.number
    (subst IsAllowed c.requires c.is_due_with.ensures.allowed) c.if-not-report.false
    (sym c.is_due_with.ensures.due ∙ c.if-not-is_due_with.true)
