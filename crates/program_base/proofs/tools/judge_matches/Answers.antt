-- SPDX-License-Identifier: MIT OR Apache-2.0
use Rattle.std.proofs.Common.{◌≡◌, true, refl}
use Rattle.clap.specs.Words.{app_of, is_simple_and_free}
use Rattle.program_base.specs.CommandLine.{texts}
use Rattle.program_base.specs.ToolLine.{judge_command}
use Rattle.program_base.proofs.Taking.{no_task-complaint, refused_by, taken_rows_by}
use Rattle.program_base.proofs.tools.judge_matches.Goals as goal

-- the command line has none of the parts of `clap` whose outcome isn't said
simple : is_simple_and_free judge_command ≡ true
simple = refl

pub returns-in-Ok-clause-taken : goal.returns-in-Ok-clause-taken
returns-in-Ok-clause-taken c =
    (taken_rows_by (app_of c.in_ok-command.command) judge_command (texts c.args.options.now) c.in-Ok.matches c.in_ok-command.ensures simple
    c.in-Ok.ensures.kinds c.in-Ok.ensures.matches).0

pub returns-in-Ok-clause-found : goal.returns-in-Ok-clause-found
returns-in-Ok-clause-found c =
    (taken_rows_by (app_of c.in_ok-command.command) judge_command (texts c.args.options.now) c.in-Ok.matches c.in_ok-command.ensures simple
    c.in-Ok.ensures.kinds c.in-Ok.ensures.matches).1

pub returns-in-Err-clause-refused : goal.returns-in-Err-clause-refused
returns-in-Err-clause-refused c complaint is =
    refused_by (app_of c.in_ok-command.command) judge_command (texts c.args.options.now) c.in-Err.error c.in_ok-command.ensures simple
    c.in-Err.ensures.kinds (no_task-complaint _ complaint _ c.from.ensures cc).1
