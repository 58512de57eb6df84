-- SPDX-License-Identifier: MIT OR Apache-2.0
use Rattle.std.proofs.Common.{codes}
use Rattle.std.proofs.lemmas.Result.{IfOk-weaker}
use Rattle.program_base.specs.ToolLine.{flag, tool_program}
use Rattle.program_base.proofs.Commanding.{app_with_rule}
use Rattle.program_base.proofs.tools.long_command.Goals as goal

pub returns : goal.returns
returns c =
    IfOk-weaker c.arg.result _ _
    (λ command adds.
    app_with_rule c.tool_program.result c.flag.result command (tool_program (codes "bsc decode")) (flag (codes "long")) adds
    c.flag.ensures.local c.tool_program.ensures.app c.flag.ensures.rule)
    c.arg.ensures
