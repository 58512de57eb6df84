-- SPDX-License-Identifier: MIT OR Apache-2.0
-- The measures of the cells' levels refer to the ARFCNs of the other cells.
use Rattle.std.proofs.Common.{◌-◌, [], ℕ, List, fold, map, remove, ap, ◌∙◌}
use Rattle.ho_decision.specs.declared.settings.Cell.{Cell}
use Rattle.ho_decision.specs.Measure.{level_among}
use Rattle.ho_decision.specs.Settings.{with_cell}
use Rattle.ho_decision.proofs.settings.HoSettings.new.Goals as goal

pub invariant_of-result : goal.invariant_of-result
invariant_of-result c =
    let cells : List Cell = c.args.cells.items in
    let arfcns : List ℕ = c.in_ok-frequencies.frequencies.items in (
      c.in_ok-levels.ensures
          ∙ ap (λ (xs : List ℕ). map (level_among xs) c.deref-3.result.now) c.deref-2.ensures.value
          ∙ ap (λ (cs : List Cell). map (level_among arfcns) cs) c.deref-3.ensures.value
          ∙ ap (λ (xs : List ℕ). map (level_among xs) cells) c.in_ok-frequencies.ensures
          ∙ ap (λ (cs : List Cell). map (level_among (fold with_cell [] (remove cs (c.args.serving - 1)))) cells) c.deref.ensures.value,
      c.requires,
    )
