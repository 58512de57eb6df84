-- SPDX-License-Identifier: MIT OR Apache-2.0
use Rattle.std.proofs.Common.{ℕ, List, [], Option, unwrap_or, refl, sym, ap, ◌∙◌, subst, codes}
use Rattle.std.specs.Borrow.{Bor}
use Rattle.clap.specs.Words.{found_of, rows_of}
use Rattle.clap.proofs.WalkLemmas.{first_value-rows}
use Rattle.program_base.specs.ToolLine.{IsTrace}
use Rattle.program_base.specs.declared.words.Tool.TheVariants.{Trace}
use Rattle.program_base.proofs.Taking.{is_trace, unwrap_or-now}
use Rattle.program_base.proofs.tools.found_trace.Goals as goal

pub returns-clause-found : goal.returns-clause-found
returns-clause-found c =
    let found = found_of c.in_ok-matches.matches in
    let settings = c.in_ok-from_str.ensures.ok ∙ ap (λ (t : Bor (List ℕ)). t.now) c.unwrap_or-settings.ensures
    ∙ unwrap_or-now c.get_str.result _ refl
    ∙ ap (λ (o : Option (List ℕ)). unwrap_or o []) (c.get_str.ensures ∙ first_value-rows found (codes "config")) in
    let flag = c.get_str-2.ensures ∙ first_value-rows found (codes "strict") in
    let chart = c.in_ok-copy_of.ensures ∙ c.get_str-3.ensures ∙ first_value-rows found (codes "chart") in
    let capture = c.in_ok-copy_of-2.ensures ∙ c.get_str-4.ensures ∙ first_value-rows found (codes "capture") in
    subst (IsTrace (Trace c.in_ok-from_str.field-0 c.is_true-strict.result c.in_ok-copy_of.field-0 c.in_ok-copy_of-2.field-0)) c.in_ok-matches.ensures.found
    (is_trace c.in_ok-from_str.field-0 _ _ _ (rows_of found) settings (λ is. sym flag ∙ c.is_true-strict.ensures.given is)
    (λ is. c.is_true-strict.ensures.only (flag ∙ is)) chart capture)
