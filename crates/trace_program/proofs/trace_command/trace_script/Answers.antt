-- SPDX-License-Identifier: MIT OR Apache-2.0
use Rattle.std.proofs.Common.{◌≡◌, refl, ◌∙◌}
use Rattle.std.proofs.lemmas.Result.{IfErr-at_err, IfErr-weaker, IfOk-weaker}
use Rattle.program_io.specs.declared.failure.Failure.TheVariants.{BadEvent}
use Rattle.program_io.specs.Status.{status_of}
use Rattle.program_io.proofs.Ends.{no_device}
use Rattle.dtap_codec.specs.Number.{count_of}
use Rattle.trace_program.proofs.Commanded.{traced_by}
use Rattle.trace_program.proofs.trace_command.trace_script.Goals as goal

pub returns-clause-printed : goal.returns-clause-printed
returns-clause-printed g c =
    IfOk-weaker c.trace_events.result _ _
    (λ tally done.
    traced_by c.args.settings tally (count_of c.modulus_of-modulus.result) c.in_ok-network.network c.from-cells.result
    (g.R.Read.remaining c.args.input.now) (g.W.Write.contents c.args.output.now) (g.W.Write.contents c.trace_events.new.output)
    c.in_ok-script.script.events.items c.in_ok-script.script.octets.items (c.from-cells.ensures ∙ c.cell_count.ensures.value)
    c.in_ok-script.ensures.events c.in_ok-script.ensures.octets c.modulus_of-modulus.ensures c.in_ok-network.ensures done)
    c.trace_events.ensures.ok

pub returns-clause-bad : goal.returns-clause-bad
returns-clause-bad g c = λ n is. no_device (BadEvent n) (BadEvent n)
    (IfErr-at_err (λ failure. status_of failure ≡ 3) is c.trace_events.ensures.err) refl refl

pub returns-clause-kept : goal.returns-clause-kept
returns-clause-kept g c = IfErr-weaker c.trace_events.result _ _ (λ failure three not. absurd (not three)) c.trace_events.ensures.err
