-- SPDX-License-Identifier: MIT OR Apache-2.0
use Rattle.std.proofs.Common.{codes}
use Rattle.std.proofs.lemmas.Result.{IfOk-weaker}
use Rattle.clap.specs.Words.{new_app, with_rule}
use Rattle.program_base.specs.CommandLine.{break_option, config}
use Rattle.program_base.proofs.Commanding.{app_with_rule, local_with_rule}
use Rattle.program_base.proofs.parsing.replay.Goals as goal

pub returns-clause-app : goal.returns-clause-app
returns-clause-app c =
    IfOk-weaker c.arg-2.result _ _
    (λ command adds.
    app_with_rule c.in_ok-arg.field-0 c.option-2.result command (with_rule (new_app (codes "replay")) config) break_option adds c.option-2.ensures.local
    (app_with_rule c.new.result c.option.result c.in_ok-arg.field-0 (new_app (codes "replay")) config c.in_ok-arg.ensures c.option.ensures.local c.new.ensures.app c.option.ensures.rule) c.option-2.ensures.rule)
    c.arg-2.ensures

pub returns-clause-local : goal.returns-clause-local
returns-clause-local c =
    IfOk-weaker c.arg-2.result _ _
    (λ command adds.
    local_with_rule c.in_ok-arg.field-0 c.option-2.result command adds (local_with_rule c.new.result c.option.result c.in_ok-arg.field-0 c.in_ok-arg.ensures c.new.ensures.local c.option.ensures.local) c.option-2.ensures.local)
    c.arg-2.ensures
