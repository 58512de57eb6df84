-- SPDX-License-Identifier: MIT OR Apache-2.0
use Rattle.std.proofs.Common.{◌∙◌, sym}
use Rattle.program_base.specs.SettingsText.{settings_of}
use Rattle.toml.specs.Parse.{parse_document}
use Rattle.settings.specs.Tables.{settings_in}
use Rattle.trace_program.proofs.Commanded.{among_five, any_status, fault_status, no_fault, not_kept, not_one, not_traced, not_two}
use Rattle.trace_program.proofs.Commanded.{one_status, settings_fault, tally_status, traces_with, two_status}
use Rattle.trace_program.proofs.trace_command.trace.Goals as goal

pub returns-in-Ok-clause-status : goal.returns-in-Ok-clause-status
returns-in-Ok-clause-status g c = any_status c.ended.result (tally_status c.args.strict c.in-Ok.tally c.ended.result c.ended.ensures)

pub returns-in-Ok-clause-asked : goal.returns-in-Ok-clause-asked
returns-in-Ok-clause-asked g c = no_fault (settings_of c.args.settings.now) c.ended.result _ c.in-Ok.ensures.printed

pub returns-in-Ok-clause-settings : goal.returns-in-Ok-clause-settings
returns-in-Ok-clause-settings g c = λ one. absurd (not_one c.ended.result
    (tally_status c.args.strict c.in-Ok.tally c.ended.result c.ended.ensures) one)

pub returns-in-Ok-clause-printed : goal.returns-in-Ok-clause-printed
returns-in-Ok-clause-printed g c = λ all.
    traces_with (settings_of c.args.settings.now) c.args.strict c.ended.result c.in-Ok.tally (g.R.Read.remaining c.args.input.now)
    (g.W.Write.contents c.args.output.now) (g.W.Write.contents c.try_trace.new.output) c.ended.ensures c.in-Ok.ensures.printed

pub returns-in-Ok-clause-bad : goal.returns-in-Ok-clause-bad
returns-in-Ok-clause-bad g c = λ two. absurd (not_two c.ended.result
    (tally_status c.args.strict c.in-Ok.tally c.ended.result c.ended.ensures) two)

pub returns-in-Ok-clause-kept : goal.returns-in-Ok-clause-kept
returns-in-Ok-clause-kept g c = λ either. absurd (not_kept c.ended.result
    (tally_status c.args.strict c.in-Ok.tally c.ended.result c.ended.ensures) either)

pub returns-in-Err-clause-status : goal.returns-in-Err-clause-status
returns-in-Err-clause-status g c = among_five c.status.result (fault_status c.in-Err.fault c.status.result c.status.ensures)

pub returns-in-Err-clause-asked : goal.returns-in-Err-clause-asked
returns-in-Err-clause-asked g c = settings_fault (settings_of c.args.settings.now) (g.R.Read.remaining c.args.input.now) c.in-Err.fault
    c.status.result c.status.ensures c.in-Err.ensures.fails

pub returns-in-Err-clause-settings : goal.returns-in-Err-clause-settings
returns-in-Err-clause-settings g c = λ one. one_status (settings_of c.args.settings.now) (g.R.Read.remaining c.args.input.now)
    c.in-Err.fault c.in-Err.ensures.fails (sym c.status.ensures ∙ one)

pub returns-in-Err-clause-read : goal.returns-in-Err-clause-read
returns-in-Err-clause-read g c = λ all. absurd (not_traced c.status.result (fault_status c.in-Err.fault c.status.result c.status.ensures)
    all)

pub returns-in-Err-clause-printed : goal.returns-in-Err-clause-printed
returns-in-Err-clause-printed g c = λ all. absurd (not_traced c.status.result (fault_status c.in-Err.fault c.status.result c.status.ensures)
    all)

pub returns-in-Err-clause-bad : goal.returns-in-Err-clause-bad
returns-in-Err-clause-bad g c = λ two. two_status (settings_in (parse_document c.args.settings.now)) (g.R.Read.remaining c.args.input.now)
    c.in-Err.fault c.in-Err.ensures.fails (sym c.status.ensures ∙ two)
