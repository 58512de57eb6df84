-- SPDX-License-Identifier: MIT OR Apache-2.0
-- The sum of octets over their number is an octet.
use Rattle.std.proofs.Common.{◌≡◌, ◌*◌, ◌/◌, ◌≤◌, List, [], ◌∷◌, ◌++◌, length, sum_by, arith, ap, ◌∙◌, length-append}
use Rattle.std.proofs.Math.Nat.{div-le_of_le-mul}
use Rattle.dtap_codec.specs.declared.report.Report.{Report}
use Rattle.ho_decision.specs.declared.running.Averaged.{Averaged}
use Rattle.ho_decision.specs.Average.{average, last}
use Rattle.ho_decision.specs.Measure.{value_of}
use Rattle.ho_decision.proofs.Window.{length-last, sum_by_last_le}
use Rattle.ho_decision.proofs.running.RunningSum.average_after.Goals as goal

pub overflow_cast-result : goal.overflow_cast-result
overflow_cast-result c =
    let f = value_of c.add.new.self.of.measure in
    let w = c.add.new.self.of.window in
    let xs : List Report = c.args.reports.now.items ++ c.args.report.now ∷ [] in
    let total = c.add.new.self.total in
    let count = c.min-count.result in
    let all : count ≡ length (last w xs) = omega (arith, length-last w xs, length-append c.args.reports.now.items (c.args.report.now ∷ [])) in
    let bound : total ≤ length (last w xs) * 255 = omega (arith, c.add.ensures.sum.total, sum_by_last_le f w xs c.add.ensures.sum.octets) in
    let within : total ≤ count * 255 = omega (arith, all, bound) in
    omega (arith, div-le_of_le-mul count within)

pub returns : goal.returns
returns c =
    let f = value_of c.add.new.self.of.measure in
    let w = c.add.new.self.of.window in
    let xs : List Report = c.args.reports.now.items ++ c.args.report.now ∷ [] in
    let all : c.min-count.result ≡ length (last w xs) = omega (arith, length-last w xs, length-append c.args.reports.now.items (c.args.report.now ∷ [])) in
    ap (λ n. n / c.min-count.result) c.add.ensures.sum.total ∙ ap (λ n. sum_by f (last w xs) / n) all
    ∙ ap (λ (o : Averaged). average (value_of o.measure) o.window xs) c.add.ensures.of
