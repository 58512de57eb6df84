-- SPDX-License-Identifier: MIT OR Apache-2.0
use Rattle.std.proofs.Common.{ap, ◌∙◌, codes}
use Rattle.std.proofs.lemmas.Result.{IfOk-weaker}
use Rattle.clap.specs.Words.{with_rule}
use Rattle.clap.specs.declared.builder.arg.Arg.{Arg}
use Rattle.program_base.specs.CommandLine.{config, required_config}
use Rattle.program_base.specs.ToolLine.{capture_option, chart_option, flag, tool_program}
use Rattle.program_base.proofs.Commanding.{app_with_rule, rule_as_required}
use Rattle.program_base.proofs.tools.trace_command.Goals as goal

pub returns : goal.returns
returns c =
    let program = tool_program (codes "bsc trace") in
    let strict_flag = flag (codes "strict") in
    let configured = app_with_rule c.tool_program.result c.required.result c.in_ok-arg.field-0 program required_config c.in_ok-arg.ensures
    (ap (λ (a : Arg). a.global) c.required.ensures ∙ c.option.ensures.local) c.tool_program.ensures.app
    (rule_as_required c.option.result c.required.result config c.required.ensures c.option.ensures.rule) in
    let strict = app_with_rule c.in_ok-arg.field-0 c.flag.result c.in_ok-arg-2.field-0 (with_rule program required_config) strict_flag
    c.in_ok-arg-2.ensures c.flag.ensures.local configured c.flag.ensures.rule in
    let charting = app_with_rule c.in_ok-arg-2.field-0 c.chart_option.result c.in_ok-arg-3.field-0 (with_rule (with_rule program required_config) strict_flag) chart_option
    c.in_ok-arg-3.ensures c.chart_option.ensures.local strict c.chart_option.ensures.rule in
    IfOk-weaker c.arg-4.result _ _
    (λ command adds.
    app_with_rule c.in_ok-arg-3.field-0 c.option-2.result command (with_rule (with_rule (with_rule program required_config) strict_flag) chart_option) capture_option adds
    c.option-2.ensures.local charting c.option-2.ensures.rule)
    c.arg-4.ensures
