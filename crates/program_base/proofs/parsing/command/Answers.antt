-- SPDX-License-Identifier: MIT OR Apache-2.0
use Rattle.std.proofs.lemmas.Result.{IfOk-weaker}
use Rattle.clap.specs.Words.{with_subcommand}
use Rattle.program_base.specs.CommandLine.{decode_command, program, replay_command, run_command}
use Rattle.program_base.proofs.Commanding.{app_with_subcommand}
use Rattle.program_base.proofs.parsing.command.Goals as goal

pub returns : goal.returns
returns c =
    IfOk-weaker c.subcommand-3.result _ _
    (λ command adds.
    app_with_subcommand c.in_ok-command-2.command c.decode.result command (with_subcommand (with_subcommand program run_command.top) replay_command.top) decode_command adds c.decode.ensures.local
    (app_with_subcommand c.in_ok-command.command c.in_ok-replay.field-0 c.in_ok-command-2.command (with_subcommand program run_command.top) replay_command c.in_ok-command-2.ensures c.in_ok-replay.ensures.local
    (app_with_subcommand c.program.result c.in_ok-run.field-0 c.in_ok-command.command program run_command c.in_ok-command.ensures c.in_ok-run.ensures.local c.program.ensures.app c.in_ok-run.ensures.app) c.in_ok-replay.ensures.app)
    c.decode.ensures.app)
    c.subcommand-3.ensures
