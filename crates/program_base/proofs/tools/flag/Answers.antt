-- SPDX-License-Identifier: MIT OR Apache-2.0
use Rattle.std.proofs.Common.{ap, ◌∙◌, Some}
use Rattle.clap.specs.Words.{new_rule, rule_of}
use Rattle.clap.specs.declared.builder.action.ArgAction.TheVariants.{SetTrue}
use Rattle.clap.specs.declared.builder.arg.Arg.{Arg}
use Rattle.program_base.proofs.Commanding.{rule_with_action}
use Rattle.program_base.proofs.tools.flag.Goals as goal

pub returns-clause-rule : goal.returns-clause-rule
returns-clause-rule c = ap rule_of c.action.ensures
    ∙ rule_with_action c.option.result SetTrue (record (new_rule c.args.name.now) { long = Some c.args.name.now }) c.option.ensures.rule

pub returns-clause-local : goal.returns-clause-local
returns-clause-local c = ap (λ (a : Arg). a.global) c.action.ensures ∙ c.option.ensures.local
