-- SPDX-License-Identifier: MIT OR Apache-2.0
-- The last ten reports decide as all do.
use Rattle.std.proofs.Common.{List, sym, subst}
use Rattle.dtap_codec.specs.declared.report.Report.{Report}
use Rattle.ho_decision.specs.State.{State}
use Rattle.ho_decision.specs.Decision.{Decides}
use Rattle.ho_decision.proofs.Ten.{decides_of_last}
use Rattle.ho_decision.proofs.averages.Averages.decide.Goals as goal

pub returns-clause-all : goal.returns-clause-all
returns-clause-all c =
    λ all e.
    let state : State = c.args.self.now in
    let d = c.decide_over_kept.result in
    let P : List Report → Type 0 = λ rs. Decides state.settings rs state.number d in
    decides_of_last state.settings all state.number d c.decide_over_kept.ensures.allowed (subst P (sym e) c.decide_over_kept.ensures.decides)
