-- SPDX-License-Identifier: MIT OR Apache-2.0
use Rattle.std.proofs.Common.{◌≡◌, refl}
use Rattle.std.proofs.lemmas.Result.{IfErr-at_err, IfErr-weaker, on_ok_weaker}
use Rattle.world.specs.World.{fixed_world}
use Rattle.bsc_program.specs.Asked.{fixed}
use Rattle.program_io.specs.declared.failure.Failure.TheVariants.{BadEvent}
use Rattle.program_io.specs.Status.{status_of}
use Rattle.program_io.proofs.Ends.{no_device}
use Rattle.bsc_program.proofs.Replaying.{reports_by}
use Rattle.bsc_program.proofs.replay_command.replay_fixed.Goals as goal

pub returns-clause-printed : goal.returns-clause-printed
returns-clause-printed g c =
    on_ok_weaker c.report_events.result
    (reports_by fixed (fixed_world 4) c.fixed-world.result c.deref.result.now (g.R.Read.remaining c.args.input.now) (g.W.Write.contents c.args.output.now) (g.W.Write.contents c.report_events.new.output) c.in_ok-events.events.items
    (λ text is. is) c.in_ok-events.ensures.events c.fixed-world.ensures.world c.deref.ensures.value refl)
    c.report_events.ensures.ok

pub returns-clause-bad : goal.returns-clause-bad
returns-clause-bad g c = λ n is. no_device (BadEvent n) (BadEvent n) (IfErr-at_err (λ failure. status_of failure ≡ 3) is c.report_events.ensures.err) refl refl

pub returns-clause-kept : goal.returns-clause-kept
returns-clause-kept g c = IfErr-weaker c.report_events.result _ _ (λ failure three not. absurd (not three)) c.report_events.ensures.err
