-- SPDX-License-Identifier: MIT OR Apache-2.0
-- The measure of a cell's level has the index of the cell.
use Rattle.std.proofs.Common.{◌≡◌, ◌<◌, List, length, arith, ap, ◌∙◌}
use Rattle.std.specs.List.{All}
use Rattle.std.proofs.lemmas.List.Elements.{All-weaker}
use Rattle.dtap_codec.specs.declared.report.Report.{Report}
use Rattle.ho_decision.specs.declared.measure.Measure.{Measure}
use Rattle.ho_decision.specs.Settings.{Settings, settings_of}
use Rattle.ho_decision.specs.Decision.{average_at}
use Rattle.ho_decision.specs.Measure.{value_of}
use Rattle.ho_decision.proofs.Levels.{level_measured}
use Rattle.ho_decision.proofs.TooWeak.{average_below}
use Rattle.ho_decision.proofs.averages.average_level.Goals as goal

pub returns-then-not-may_name : goal.returns-then-not-may_name
returns-then-not-may_name c =
    let reports : List Report = c.args.reports.now.items in
    let inside = c.settings.inside in
    let t : Settings = settings_of inside.parameters inside.cells.items inside.serving in
    let m : Measure = c.index-measure.result.now in
    let there : c.args.place < length t.cells = omega (arith, c.requires.place, ap (λ (s : Settings). length s.cells) c.settings.view_is) in
    let none : All (λ r. value_of m r ≡ 0) reports = c.may_name.ensures reports c.requires.heard c.if-not-may_name.true in
    let below = average_below (value_of m) t.parameters.neighbour_window 1 reports c.requires.some (All-weaker (λ r. value_of m r ≡ 0) (λ r. value_of m r < 1) (λ r e. omega (arith, e)) reports none) in
    let measured = level_measured t reports inside.levels.items c.args.place m there c.settings.invariant.0 c.index-measure.ensures ∙ ap (λ (s : Settings). average_at s reports c.args.place) c.settings.view_is in
    omega (arith, below, measured)

pub returns : goal.returns
returns c =
    let reports : List Report = c.args.reports.now.items in
    let inside = c.settings.inside in
    let t : Settings = settings_of inside.parameters inside.cells.items inside.serving in
    let there : c.args.place < length t.cells = omega (arith, c.requires.place, ap (λ (s : Settings). length s.cells) c.settings.view_is) in
    c.average_over.ensures
    ∙ level_measured t reports inside.levels.items c.args.place c.index-measure.result.now there c.settings.invariant.0 c.index-measure.ensures
    ∙ ap (λ (s : Settings). average_at s reports c.args.place) c.settings.view_is
