-- SPDX-License-Identifier: MIT OR Apache-2.0
-- The bound holds for the reports and the settings of these averages.
use Rattle.std.proofs.Common.{◌<◌, ℕ, List, length, ap, subst}
use Rattle.dtap_codec.specs.declared.report.Report.{Report}
use Rattle.ho_decision.specs.Decision.{average_at}
use Rattle.ho_decision.specs.Settings.{Settings}
use Rattle.ho_decision.specs.State.{State}
use Rattle.ho_decision.proofs.averages.Averages.may_any_reach.Goals as goal

abbrev AreBelow : ℕ → Settings → List Report → Type 0
AreBelow level s reports = (place : ℕ) → place < length s.cells → average_at s reports place < level

pub returns : goal.returns
returns c =
    λ weak.
    let kept = ap (λ (v : State). v.reports) c.self.view_is in
    subst (λ (s : Settings). AreBelow c.args.level s c.args.self.now.reports) c.requires.same
    (subst (λ (reports : List Report). AreBelow c.args.level c.args.settings.now reports) kept (c.may_any_reach.ensures weak))
