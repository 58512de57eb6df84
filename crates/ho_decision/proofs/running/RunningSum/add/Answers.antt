-- SPDX-License-Identifier: MIT OR Apache-2.0
-- The sum loses the value that leaves the window, and gains that of the report.
use Rattle.std.proofs.Common.{◌≡◌, ◌+◌, ◌-◌, ◌*◌, ◌≤◌, List, [], ◌∷◌, ◌++◌, length, sum_by, refl, arith, ap, ◌∙◌}
use Rattle.std.proofs.lemmas.List.Elements.{All-push}
use Rattle.std.proofs.lemmas.List.Sums.{sum_by_push}
use Rattle.dtap_codec.specs.declared.report.Report.{Report}
use Rattle.ho_decision.specs.Average.{last}
use Rattle.ho_decision.specs.Measure.{value_of}
use Rattle.ho_decision.specs.Sums.{total_over}
use Rattle.ho_decision.proofs.Window.{leaving_window, length-last, last-more, sum_by_last_le}
use Rattle.ho_decision.proofs.running.RunningSum.add.Goals as goal

pub overflow_add-self : goal.overflow_add-self
overflow_add-self c =
    let f = value_of c.args.self.now.of.measure in
    let w = c.args.self.now.of.window in
    let xs : List Report = c.args.reports.now.items in
    let few : length (last (w - 1) xs) ≤ 9 = omega (arith, length-last (w - 1) xs, c.requires.window.1) in
    let left : sum_by f (last (w - 1) xs) ≤ length (last (w - 1) xs) * 255 = sum_by_last_le f (w - 1) xs c.requires.octets in
    let leaving = leaving_window (λ k. total_over c.args.self.now.of.measure k xs) w (c.from-back.result - 1) c.value_at-leaving.result (omega (arith, c.requires.window.0, c.from-back.ensures)) c.value_at-leaving.ensures in
    omega (arith, few, left, c.requires.total, leaving)

pub returns : goal.returns
returns c =
    let f = value_of c.args.self.now.of.measure in
    let w = c.args.self.now.of.window in
    let xs : List Report = c.args.reports.now.items in
    let r : Report = c.args.report.now in
    let after : sum_by f (last w (xs ++ r ∷ [])) ≡ sum_by f (last (w - 1) xs) + f r = ap (λ ys. sum_by f ys) (last-more w xs r c.requires.window.0) ∙ sum_by_push f (last (w - 1) xs) r in
    let leaving = leaving_window (λ k. total_over c.args.self.now.of.measure k xs) w (c.from-back.result - 1) c.value_at-leaving.result (omega (arith, c.requires.window.0, c.from-back.ensures)) c.value_at-leaving.ensures in
    record {
      of = refl;
      sum = record {
        window = c.requires.window;
        total = omega (arith, after, c.requires.total, leaving, c.value.ensures);
        octets = All-push (λ x. f x ≤ 255) xs r c.requires.octets (omega (arith, c.value.ensures));
      };
    }
