-- SPDX-License-Identifier: MIT OR Apache-2.0
-- With a report there is an average.
use Rattle.std.proofs.Common.{◌<◌, Some, List, length, sym, ap, ◌∙◌, arith}
use Rattle.std.proofs.lemmas.Bool.Decides.{nat_tests}
use Rattle.dtap_codec.specs.declared.report.Report.{Report}
use Rattle.ho_decision.specs.declared.running.Averaged.{Averaged}
use Rattle.ho_decision.specs.Settings.{Settings}
use Rattle.ho_decision.specs.Average.{average}
use Rattle.ho_decision.specs.Measure.{value_of}
use Rattle.ho_decision.proofs.Ten.{quality-some}
use Rattle.ho_decision.proofs.averages.Averages.rxqual.Goals as goal

pub returns : goal.returns
returns c =
    let s : Settings = c.self.inside.settings.value in
    let reports : List Report = c.self.inside.reports.items in
    let some : 0 < length reports = grind (arith, nat_tests) in
    rw (← c.self.view_is)
    (ap Some (c.average.ensures ∙ ap (λ (o : Averaged). average (value_of o.measure) o.window reports) c.self.invariant.2.serving_quality)
    ∙ sym (quality-some s reports some))
