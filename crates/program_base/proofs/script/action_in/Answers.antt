-- SPDX-License-Identifier: MIT OR Apache-2.0
use Rattle.std.proofs.Common.{◌≡◌, ap, arith, rules}
use Rattle.std.specs.Prelude.{codes}
use Rattle.std.proofs.lemmas.Slice.Eq.{text_from_reads}
use Rattle.program_base.specs.ScriptReading.{action_in}
use Rattle.program_base.proofs.script.action_in.Goals as goal

pub returns-in-assign : goal.returns-in-assign
unfolding action_in
returns-in-assign c =
    let is : c.args.word.now ≡ codes "assign" = text_from_reads c.args.word.now (codes "assign") (omega (arith, c.in-assign.len_at_least, c.in-assign.len_below)) (search rules) in
    ap action_in is
