-- SPDX-License-Identifier: MIT OR Apache-2.0
use Rattle.std.proofs.Common.{sym, ◌∙◌, subst, codes}
use Rattle.clap.specs.Words.{found_of, rows_of}
use Rattle.clap.proofs.WalkLemmas.{first_value-rows}
use Rattle.program_base.specs.ToolLine.{IsJudge}
use Rattle.program_base.specs.declared.words.Tool.TheVariants.{Judge}
use Rattle.program_base.proofs.Taking.{is_judge}
use Rattle.program_base.proofs.tools.found_judge.Goals as goal

pub returns-clause-found : goal.returns-clause-found
returns-clause-found c =
    let found = found_of c.in_ok-matches.matches in
    let strict = c.get_str.ensures ∙ first_value-rows found (codes "strict") in
    let tap = c.get_str-2.ensures ∙ first_value-rows found (codes "tap") in
    let settings = c.in_ok-copy_of.ensures ∙ c.get_str-3.ensures ∙ first_value-rows found (codes "settings") in
    subst (IsJudge (Judge c.in_ok-copy_of.field-0 c.is_true-strict.result c.is_true-tap.result)) c.in_ok-matches.ensures.found
    (is_judge c.in_ok-copy_of.field-0 _ _ (rows_of found) settings
    (λ is. sym strict ∙ c.is_true-strict.ensures.given is, λ is. c.is_true-strict.ensures.only (strict ∙ is))
    (λ is. sym tap ∙ c.is_true-tap.ensures.given is, λ is. c.is_true-tap.ensures.only (tap ∙ is)))
