-- SPDX-License-Identifier: MIT OR Apache-2.0
use Rattle.std.proofs.Common.{ap, ◌∙◌}
use Rattle.clap.specs.Words.{new_app}
use Rattle.clap.specs.declared.builder.command.Command.TheViews.{out-Command}
use Rattle.clap.specs.declared.builder.command.Command.{Command}
use Rattle.clap.specs.declared.builder.command.Command.TheOpen.{Command-F}
use Rattle.clap.specs.Simple.{app_of_fields}
use Rattle.program_base.proofs.Commanding.{no_name_of}
use Rattle.program_base.proofs.tools.tool_program.Goals as goal

pub returns-clause-app : goal.returns-clause-app
returns-clause-app c =
    ap (λ (fields : Command-F Command). app_of_fields fields) c.no_binary_name.ensures
    ∙ no_name_of (out-Command c.new.result) (new_app c.args.name.now) c.new.ensures.app

pub returns-clause-local : goal.returns-clause-local
returns-clause-local c = ap (λ (fields : Command-F Command). fields.has_globals) c.no_binary_name.ensures ∙ c.new.ensures.local
