-- SPDX-License-Identifier: MIT OR Apache-2.0
use Rattle.std.proofs.Common.{ap, ◌∙◌, codes}
use Rattle.std.proofs.lemmas.Result.{IfOk-weaker}
use Rattle.clap.specs.Words.{new_app}
use Rattle.clap.specs.declared.builder.arg.Arg.{Arg}
use Rattle.program_base.specs.CommandLine.{config, required_config}
use Rattle.program_base.proofs.Commanding.{app_with_rule, local_with_rule, rule_as_required}
use Rattle.program_base.proofs.parsing.run.Goals as goal

pub returns-clause-app : goal.returns-clause-app
returns-clause-app c =
    IfOk-weaker c.arg.result _ _
    (λ command adds.
    app_with_rule c.new.result c.required.result command (new_app (codes "run")) required_config adds (ap (λ (a : Arg). a.global) c.required.ensures ∙ c.option.ensures.local) c.new.ensures.app
    (rule_as_required c.option.result c.required.result config c.required.ensures c.option.ensures.rule))
    c.arg.ensures

pub returns-clause-local : goal.returns-clause-local
returns-clause-local c =
    IfOk-weaker c.arg.result _ _
    (λ command adds. local_with_rule c.new.result c.required.result command adds c.new.ensures.local (ap (λ (a : Arg). a.global) c.required.ensures ∙ c.option.ensures.local)) c.arg.ensures
