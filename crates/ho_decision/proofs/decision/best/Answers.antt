-- SPDX-License-Identifier: MIT OR Apache-2.0
-- Each turn adds a cell to the choice.
use Rattle.std.proofs.Common.{◌≡◌, ◌≢◌, ℕ, ◌+◌, List, length, refl, sym, ap, ◌∙◌, subst, arith}
use Rattle.dtap_codec.specs.declared.report.Report.{Report}
use Rattle.ho_decision.specs.declared.decision.Choice.{Choice}
use Rattle.ho_decision.specs.Settings.{Settings}
use Rattle.ho_decision.specs.Decision.{Chooses, average_at}
use Rattle.ho_decision.proofs.Choice.{Wants, chosen, wants_keeps, wants_offered}
use Rattle.ho_decision.proofs.decision.best.Goals as goal
use Rattle.ho_decision.proofs.decision.best.Goals.{then-number-settings, else-number-settings}

pub loop-place-preserved : goal.loop-place-preserved
loop-place-preserved c =
    let s : Settings = c.args.averages.now.settings in
    let reports : List Report = c.args.averages.now.reports in
    let place = c.loop-place.place in
    let choice : Choice = c.loop-place.choice in
    let serving : c.settings.inside.serving ≡ s.serving = ap (λ (t : Settings). t.serving) (c.settings.view_is ∙ c.requires.same) in
    let P : Choice → Type 0 = λ v. Wants s reports (place + 1) v.decision v.wanted in
    elim c.if-number-settings.branch [
      | then-number-settings w ↦
          let other : place + 1 ≢ s.serving = λ e. w.if-number-settings.true (e ∙ sym serving) in
          subst P
          (sym (w.choice-is ∙ w.consider.ensures))
          (wants_offered s reports place (place + 1) (average_at s reports place) choice other refl refl c.loop-place.invariant)
      | else-number-settings w ↦
          subst P
          (sym w.choice-is)
          (wants_keeps s reports place choice.decision choice.wanted (λ other. absurd (other (w.if-number-settings.false ∙ serving))) c.loop-place.invariant)
    ]

pub returns : goal.returns
returns c =
    let s : Settings = c.args.averages.now.settings in
    let reports : List Report = c.args.averages.now.reports in
    let all : c.loop-place.place ≡ length s.cells = omega (arith, ap (λ (t : Settings). length t.cells) (c.settings.view_is ∙ c.requires.same)) in
    let P : ℕ → Type 0 = λ n. Chooses s reports n c.loop-place.choice.decision in
    subst P all (chosen s reports c.loop-place.place c.loop-place.choice.decision c.loop-place.choice.wanted c.loop-place.invariant)

pub returns-then-not-may_any_reach : goal.returns-then-not-may_any_reach
returns-then-not-may_any_reach c =
    λ place other.
    omega (arith, c.may_any_reach.ensures c.if-not-may_any_reach.true place other.there, c.bound-wanted.ensures)
