-- SPDX-License-Identifier: MIT OR Apache-2.0
use Rattle.std.proofs.Common.{ap, option_map, sym, ◌∙◌}
use Rattle.bsc_program.specs.Asked.{breaking, controlled}
use Rattle.program_io.proofs.Ends.{said_of}
use Rattle.bsc_program.proofs.Replaying.{asked_breaking, asked_controlled, bad_script_of, fails_by}
use Rattle.bsc_program.proofs.replay_command.replay_with.Goals as goal

pub returns-in_err-replay_breaks-in-Some-clause-fails :
    goal.returns-in_err-replay_breaks-in-Some-clause-fails
returns-in_err-replay_breaks-in-Some-clause-fails g c =
    let start = g.R.Read.remaining c.args.input.now in
    let many = c.from-cells.ensures ∙ c.cell_count.ensures.value in
    said_of c.from_residual-in_err-replay_breaks-in-Some.result _ _ c.from_residual-in_err-replay_breaks-in-Some.ensures.1
    (λ fault was.
    fails_by _ (breaking c.in_ok-settings.settings c.in_ok-source-in-Some.source) start _ fault
    (asked_breaking _ _ c.in_ok-settings.settings c.in-Some.word.now c.from-cells.result c.in_ok-source-in-Some.source (sym (c.in_ok-settings.ensures (λ is. absurd (cc is)))) (ap (option_map (λ word. word.now)) c.in-Some.is) many
    c.in_ok-source-in-Some.ensures)
    was
    (λ n is. bad_script_of start n _ _ many (c.in_err-replay_breaks-in-Some.ensures.bad n (cc is))))

pub returns-in_err-replay_controlled-in-None-clause-fails :
    goal.returns-in_err-replay_controlled-in-None-clause-fails
returns-in_err-replay_controlled-in-None-clause-fails g c =
    said_of c.from_residual-in_err-replay_controlled-in-None.result _ _ c.from_residual-in_err-replay_controlled-in-None.ensures.1
    (λ fault was.
    fails_by _ (controlled c.in_ok-settings.settings) (g.R.Read.remaining c.args.input.now) _ fault
    (asked_controlled _ _ c.in_ok-settings.settings (sym (c.in_ok-settings.ensures (λ is. absurd (cc is)))) (ap (option_map (λ word. word.now)) c.in-None.is)) was
    (λ n is. c.in_err-replay_controlled-in-None.ensures.bad n (cc is)))
