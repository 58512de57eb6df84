-- SPDX-License-Identifier: MIT OR Apache-2.0
use Rattle.std.proofs.Common.{◌≡◌, refl}
use Rattle.std.proofs.lemmas.Result.{IfErr-at_err, IfErr-weaker}
use Rattle.program_io.specs.declared.failure.Failure.TheVariants.{BadEvent}
use Rattle.program_io.specs.Status.{status_of}
use Rattle.program_io.proofs.Ends.{no_device}
use Rattle.bsc_program.proofs.Replaying.{breaks_by, ok_with}
use Rattle.bsc_program.proofs.replay_command.replay_breaks.Goals as goal

pub returns-clause-printed : goal.returns-clause-printed
returns-clause-printed g c =
    ok_with c.write_breaks.result _ _
    (λ excess.
    breaks_by c.args.text.now c.args.source c.args.cells c.deref.result.now excess (g.R.Read.remaining c.args.input.now)
    (g.W.Write.contents c.args.output.now) (g.W.Write.contents c.write_breaks.new.output) c.in_ok-events.events.items
    c.in_ok-events.ensures.events c.deref.ensures.value)
    c.write_breaks.ensures.ok c.write_breaks.ensures.excess

pub returns-clause-bad : goal.returns-clause-bad
returns-clause-bad g c = λ n is. no_device (BadEvent n) (BadEvent n) (IfErr-at_err (λ failure. status_of failure ≡ 3) is c.write_breaks.ensures.err) refl refl

pub returns-clause-kept : goal.returns-clause-kept
returns-clause-kept g c = IfErr-weaker c.write_breaks.result _ _ (λ failure three not. absurd (not three)) c.write_breaks.ensures.err
