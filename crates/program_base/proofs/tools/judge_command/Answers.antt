-- SPDX-License-Identifier: MIT OR Apache-2.0
use Rattle.std.proofs.Common.{codes}
use Rattle.std.proofs.lemmas.Result.{IfOk-weaker}
use Rattle.clap.specs.Words.{with_rule}
use Rattle.program_base.specs.ToolLine.{flag, settings_option, tool_program}
use Rattle.program_base.proofs.Commanding.{app_with_rule}
use Rattle.program_base.proofs.tools.judge_command.Goals as goal

pub returns : goal.returns
returns c =
    let program = tool_program (codes "bsc judge") in
    let strict_flag = flag (codes "strict") in
    let settled = app_with_rule c.tool_program.result c.option.result c.in_ok-arg.field-0 program settings_option c.in_ok-arg.ensures
    c.option.ensures.local c.tool_program.ensures.app c.option.ensures.rule in
    let strict = app_with_rule c.in_ok-arg.field-0 c.flag.result c.in_ok-arg-2.field-0 (with_rule program settings_option) strict_flag
    c.in_ok-arg-2.ensures c.flag.ensures.local settled c.flag.ensures.rule in
    IfOk-weaker c.arg-3.result _ _
    (λ command adds.
    app_with_rule c.in_ok-arg-2.field-0 c.flag-2.result command (with_rule (with_rule program settings_option) strict_flag) (flag (codes "tap")) adds
    c.flag-2.ensures.local strict c.flag-2.ensures.rule)
    c.arg-3.ensures
