-- SPDX-License-Identifier: MIT OR Apache-2.0
-- The last reports and the one before them, if there is one.
use Rattle.std.proofs.Common.{◌+◌, List, sum_by, sym, ap, ◌∙◌, zero-add}
use Rattle.dtap_codec.specs.declared.report.Report.{Report}
use Rattle.ho_decision.specs.Average.{last}
use Rattle.ho_decision.specs.Measure.{value_of}
use Rattle.ho_decision.proofs.Window.{sum_by-leaving, sum_by-staying}
use Rattle.ho_decision.proofs.running.value_at.Goals as goal

pub returns-in-Some : goal.returns-in-Some
returns-in-Some c =
    let f = value_of c.args.measure in
    let xs : List Report = c.args.reports.now.items in
    sum_by-leaving f xs c.args.back c.in-Some.report.now c.in-Some.ensures
    ∙ ap (λ v. v + sum_by f (last c.args.back xs)) (sym c.value.ensures)

pub returns-in-None : goal.returns-in-None
returns-in-None c =
    let f = value_of c.args.measure in
    let xs : List Report = c.args.reports.now.items in
    sum_by-staying f xs c.args.back c.in-None.ensures
    ∙ sym (zero-add (sum_by f (last c.args.back xs)))
