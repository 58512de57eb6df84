-- SPDX-License-Identifier: MIT OR Apache-2.0
-- If a level is too high for each report, it is too high for their average.
use Rattle.std.proofs.Common.{◌<◌, ℕ, List, length, arith, ap, ◌∙◌, subst}
use Rattle.dtap_codec.specs.declared.report.Report.{Report}
use Rattle.ho_decision.specs.declared.measure.Measure.{Measure}
use Rattle.ho_decision.specs.Settings.{Settings, settings_of}
use Rattle.ho_decision.specs.Decision.{average_at}
use Rattle.ho_decision.specs.Measure.{value_of}
use Rattle.ho_decision.proofs.Levels.{level_measured}
use Rattle.ho_decision.proofs.TooWeak.{average_below}
use Rattle.ho_decision.proofs.averages.Averages.may_reach.Goals as goal

pub returns : goal.returns
returns c =
    λ weak.
    let reports : List Report = c.args.self.now.reports in
    let inside = c.settings.inside in
    let t : Settings = settings_of inside.parameters inside.cells.items inside.serving in
    let m : Measure = c.index.result.now in
    let same = c.settings.view_is ∙ c.requires.same in
    let there : c.args.place < length t.cells = omega (arith, c.requires.place, ap (λ (s : Settings). length s.cells) same) in
    let measured = level_measured t reports inside.levels.items c.args.place m there c.settings.invariant.0 c.index.ensures ∙ ap (λ (s : Settings). average_at s reports c.args.place) same in
    subst (λ (n : ℕ). n < c.args.level) measured
    (average_below (value_of m) t.parameters.neighbour_window c.args.level reports c.requires.some (c.may_have.ensures reports c.requires.heard weak))
