-- SPDX-License-Identifier: MIT OR Apache-2.0
use Rattle.std.proofs.Common.{◌+◌, ◌∷◌, List, ℕ, ap, rules, refl, sym, take, ◌∙◌}
use Rattle.std.proofs.lemmas.List.{take_rest}
use Rattle.std.specs.List.{slice_split}
use Rattle.judge_lines.specs.Columns.{is_tab}
use Rattle.judge_lines.proofs.Parting.{column_alone, column_at}
use Rattle.judge_lines.proofs.columns.split_column.Goals as goal

pub returns-in-Some : goal.returns-in-Some
returns-in-Some c =
    let line : List ℕ = c.args.line.now in
    let end : ℕ = c.in-Some.end in
    column_at 9 line end (search rules) ∙ ap (λ (rest : List ℕ). take end line ∷ slice_split is_tab rest) (sym (take_rest line (end + 1)))

pub returns-in-None : goal.returns-in-None
returns-in-None c = (refl, column_alone 9 c.args.line.now (search rules))
