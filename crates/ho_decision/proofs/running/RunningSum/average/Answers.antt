-- SPDX-License-Identifier: MIT OR Apache-2.0
-- The sum of octets over their number is an octet.
use Rattle.std.proofs.Common.{◌≡◌, ◌*◌, ◌/◌, ◌≤◌, List, length, sum_by, arith, ap, ◌∙◌}
use Rattle.std.proofs.Math.Nat.{div-le_of_le-mul}
use Rattle.dtap_codec.specs.declared.report.Report.{Report}
use Rattle.ho_decision.specs.Average.{last}
use Rattle.ho_decision.specs.Measure.{value_of}
use Rattle.ho_decision.proofs.Window.{length-last, sum_by_last_le}
use Rattle.ho_decision.proofs.running.RunningSum.average.Goals as goal

pub overflow_cast-result : goal.overflow_cast-result
overflow_cast-result c =
    let f = value_of c.args.self.now.of.measure in
    let w = c.args.self.now.of.window in
    let xs : List Report = c.args.reports.now.items in
    let total = c.args.self.now.total in
    let count = c.min-count.result in
    let all : count ≡ length (last w xs) = omega (arith, length-last w xs) in
    let bound : total ≤ length (last w xs) * 255 = omega (arith, c.requires.sum.total, sum_by_last_le f w xs c.requires.sum.octets) in
    let within : total ≤ count * 255 = omega (arith, all, bound) in
    omega (arith, div-le_of_le-mul count within)

pub returns : goal.returns
returns c =
    let f = value_of c.args.self.now.of.measure in
    let w = c.args.self.now.of.window in
    let xs : List Report = c.args.reports.now.items in
    let all : c.min-count.result ≡ length (last w xs) = omega (arith, length-last w xs) in
    ap (λ n. n / c.min-count.result) c.requires.sum.total ∙ ap (λ n. sum_by f (last w xs) / n) all
