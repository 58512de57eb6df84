-- SPDX-License-Identifier: MIT OR Apache-2.0
use Rattle.program_io.proofs.Ends.{said_of}
use Rattle.program_base.specs.SettingsText.{settings_of}
use Rattle.trace_program.proofs.Commanded.{fails_by, traces_as, unread_fails}
use Rattle.trace_program.proofs.trace_command.try_trace.Goals as goal

pub returns-in_err-settings-clause-fails : goal.returns-in_err-settings-clause-fails
returns-in_err-settings-clause-fails g c =
    said_of c.from_residual.result _ _ c.from_residual.ensures.1
    (λ fault was. unread_fails (settings_of c.args.settings.now) (g.R.Read.remaining c.args.input.now) _ fault c.in_err-settings.ensures
    was)

pub returns-in_err-trace_script-clause-fails : goal.returns-in_err-trace_script-clause-fails
returns-in_err-trace_script-clause-fails g c =
    said_of c.from_residual-in_err-trace_script.result _ _ c.from_residual-in_err-trace_script.ensures.1
    (λ fault was.
    fails_by (settings_of c.args.settings.now) c.in_ok-settings.settings (g.R.Read.remaining c.args.input.now) _ fault
    (c.in_ok-settings.ensures (λ is. absurd (cc is))) was
    (λ n is. c.in_err-trace_script.ensures.bad n (cc is)))

pub returns-clause-printed : goal.returns-clause-printed
returns-clause-printed g c =
    traces_as (settings_of c.args.settings.now) c.in_ok-settings.settings _ (g.R.Read.remaining c.args.input.now)
    (g.W.Write.contents c.args.output.now) (g.W.Write.contents c.trace_script.new.output)
    (c.in_ok-settings.ensures (λ is. absurd (cc is))) c.in_ok-trace_script.ensures.printed
