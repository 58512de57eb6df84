-- SPDX-License-Identifier: MIT OR Apache-2.0
use Rattle.std.proofs.Common.{ap, option_map}
use Rattle.bsc_program.specs.Asked.{fixed}
use Rattle.program_io.proofs.Ends.{said_of}
use Rattle.bsc_program.proofs.Replaying.{asked_fixed, fails_by}
use Rattle.bsc_program.proofs.replay_command.try_replay.Goals as goal

pub returns-in_err-replay_fixed-in-None-breaks-clause-fails :
    goal.returns-in_err-replay_fixed-in-None-breaks-clause-fails
returns-in_err-replay_fixed-in-None-breaks-clause-fails g c =
    said_of c.from_residual.result _ _ c.from_residual.ensures.1
    (λ fault was.
    fails_by _ fixed (g.R.Read.remaining c.args.input.now) _ fault
    (asked_fixed _ _ (ap (option_map (λ text. text.now)) c.in-None.is) (ap (option_map (λ word. word.now)) c.in-None-breaks.is)) was
    (λ n is. c.in_err-replay_fixed-in-None-breaks.ensures.bad n (cc is)))
