-- SPDX-License-Identifier: MIT OR Apache-2.0
-- The levels of a cell add up to no more than the greatest ones.
use Rattle.std.proofs.Common.{◌≡◌, ℕ, ◌*◌, ◌<◌, ◌≤◌, ◌==◌, min, Option, List, length, position, slice_index_or, sum_by, arith, ap, ◌∙◌, subst}
use Rattle.std.proofs.lemmas.Bool.{leb-false}
use Rattle.dtap_codec.specs.declared.report.Report.{Report}
use Rattle.ho_decision.specs.declared.settings.Cell.{Cell}
use Rattle.ho_decision.specs.Average.{last}
use Rattle.ho_decision.specs.Decision.{average_at}
use Rattle.ho_decision.specs.Measure.{level_at}
use Rattle.ho_decision.specs.Settings.{Settings, other_arfcns, settings_of}
use Rattle.ho_decision.proofs.Levels.{level_average}
use Rattle.ho_decision.proofs.NoneReaches.{average_of_less}
use Rattle.ho_decision.proofs.Window.{length-last}
use Rattle.ho_decision.proofs.averages.may_any_reach.Goals as goal

pub returns : goal.returns
returns c =
    λ weak place there.
    let reports : List Report = c.args.reports.now.items in
    let inside = c.settings.inside in
    let t : Settings = settings_of inside.parameters inside.cells.items inside.serving in
    let w : ℕ = t.parameters.neighbour_window in
    let cell : Cell = slice_index_or t.cells place (record { arfcn = 0; bsic = 0 }) in
    let at : Option ℕ = position (λ a. a == cell.arfcn) (other_arfcns t) in
    let xs : List Report = last w reports in
    let total : ℕ = c.strongest.result in
    let count : c.min-count.result ≡ length xs = omega (arith, length-last w reports) in
    let few : total < min (c.args.level * length xs) 65535 = omega (arith, leb-false c.saturating_mul.result total weak, c.saturating_mul.ensures, ap (λ n. min (c.args.level * n) 65535) count) in
    let most : sum_by (level_at at cell.bsic) xs ≤ total = c.strongest.ensures at cell.bsic (omega (arith, few)) in
    let below = average_of_less (level_at at cell.bsic) w c.args.level reports c.settings.invariant.1.neighbour_window.0 c.requires.some (omega (arith, most, few)) in
    subst (λ (n : ℕ). n < c.args.level) (level_average t reports cell ∙ ap (λ (s : Settings). average_at s reports place) c.settings.view_is) below
