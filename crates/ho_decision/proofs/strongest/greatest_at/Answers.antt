-- SPDX-License-Identifier: MIT OR Apache-2.0
-- The last reports and the one before them, if there is one.
use Rattle.std.proofs.Common.{◌≤◌, List, arith, subst}
use Rattle.std.specs.List.{All}
use Rattle.dtap_codec.specs.declared.report.Neighbour.{Neighbour}
use Rattle.dtap_codec.specs.declared.report.Report.{Report}
use Rattle.dtap_codec.specs.Report.{neighbours_of}
use Rattle.ho_decision.specs.Measure.{level_at, names_at}
use Rattle.ho_decision.proofs.NoneReaches.{found_at_most}
use Rattle.ho_decision.proofs.Window.{sum_by-leaving, sum_by-staying}
use Rattle.ho_decision.proofs.strongest.greatest_at.Goals as goal

pub returns-in-Some : goal.returns-in-Some
returns-in-Some c =
    λ place bsic.
    let xs : List Report = c.args.reports.now.items in
    let r : Report = c.in-Some.report.now in
    let all = subst (λ (ns : List Neighbour). All (λ (n : Neighbour). n.rxlev ≤ c.greatest.result) ns) c.neighbours.ensures c.greatest.ensures in
    omega (arith, sum_by-leaving (level_at place bsic) xs c.args.back r c.in-Some.ensures, found_at_most (names_at place bsic) c.greatest.result (neighbours_of r) all)

pub returns-in-None : goal.returns-in-None
returns-in-None c =
    λ place bsic.
    omega (arith, sum_by-staying (level_at place bsic) c.args.reports.now.items c.args.back c.in-None.ensures)
