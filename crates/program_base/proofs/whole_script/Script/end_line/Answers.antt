-- SPDX-License-Identifier: MIT OR Apache-2.0
use Rattle.std.proofs.Common.{◌≡◌, ◌++◌, ap, rules, subst, ◌∙◌}
use Rattle.program_base.specs.WholeScript.{RefusesLine}
use Rattle.program_base.proofs.Scripts.{behind_none}
use Rattle.program_base.proofs.whole_script.Script.end_line.Goals as goal

pub returns-then-is_empty-clause-bad : goal.returns-then-is_empty-clause-bad
returns-then-is_empty-clause-bad c = λ n is.
    subst (λ line. RefusesLine c.args.self.now line n) (behind_none c.args.self.now.started.items c.args.end.now (search rules)) (c.line.ensures.bad n is)

pub returns-clause-bad : goal.returns-clause-bad
returns-clause-bad c = λ n is.
    let grown : c.extend_from_slice.new.self.items ≡ c.args.self.now.started.items ++ c.args.end.now = search rules in
    subst (λ line. RefusesLine c.args.self.now line n) (c.deref.ensures.value ∙ ap (λ v. v.items) c.replace-started.ensures.value ∙ grown) (c.line-2.ensures.bad n is)
