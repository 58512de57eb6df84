-- SPDX-License-Identifier: MIT OR Apache-2.0
use Rattle.std.proofs.Common.{◌≡◌, ◌∙◌, ap, arith, rules, sym}
use Rattle.std.specs.Prelude.{codes}
use Rattle.std.proofs.lemmas.Slice.Eq.{text_from_reads}
use Rattle.judge_lines.specs.Columns.{report_named}
use Rattle.judge_lines.proofs.report.report_of.Goals as goal

pub returns-in-missing : goal.returns-in-missing
returns-in-missing c =
    let word = c.first_word.result.now in
    let is : word ≡ codes "missing" = text_from_reads word (codes "missing") (omega (arith, c.in-missing.len_at_least, c.in-missing.len_below)) (search rules) in
    sym (ap report_named (sym c.first_word.ensures ∙ is))
