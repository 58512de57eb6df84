-- SPDX-License-Identifier: MIT OR Apache-2.0
use Rattle.std.proofs.Common.{option_map, sym, ◌∙◌}
use Rattle.bsc_program.specs.Asked.{asked}
use Rattle.bsc_program.proofs.Replaying.{among_five, any_status, asked_status, excess_status, fault_status, no_fault, not_kept, not_one}
use Rattle.bsc_program.proofs.Replaying.{not_printed, not_two, prints_with, settings_status, two_status}
use Rattle.bsc_program.proofs.replay_command.replay.Goals as goal

pub returns-in-Ok-clause-status : goal.returns-in-Ok-clause-status
returns-in-Ok-clause-status g c = any_status c.ended.result (excess_status c.in-Ok.excess c.ended.result c.ended.ensures)

pub returns-in-Ok-clause-asked : goal.returns-in-Ok-clause-asked
returns-in-Ok-clause-asked g c =
    no_fault (asked (option_map (λ text. text.now) c.args.settings) (option_map (λ word. word.now) c.args.breaks)) c.ended.result _
    c.in-Ok.ensures.printed

pub returns-in-Ok-clause-settings : goal.returns-in-Ok-clause-settings
returns-in-Ok-clause-settings g c = λ one. absurd (not_one c.ended.result (excess_status c.in-Ok.excess c.ended.result c.ended.ensures) one)

pub returns-in-Ok-clause-printed : goal.returns-in-Ok-clause-printed
returns-in-Ok-clause-printed g c = λ all.
    prints_with (asked (option_map (λ text. text.now) c.args.settings) (option_map (λ word. word.now) c.args.breaks)) c.ended.result
    c.in-Ok.excess (g.R.Read.remaining c.args.input.now) (g.W.Write.contents c.args.output.now) (g.W.Write.contents c.try_replay.new.output)
    c.ended.ensures c.in-Ok.ensures.printed

pub returns-in-Ok-clause-bad : goal.returns-in-Ok-clause-bad
returns-in-Ok-clause-bad g c = λ two. absurd (not_two c.ended.result (excess_status c.in-Ok.excess c.ended.result c.ended.ensures) two)

pub returns-in-Ok-clause-kept : goal.returns-in-Ok-clause-kept
returns-in-Ok-clause-kept g c = λ either.
    absurd (not_kept c.ended.result (excess_status c.in-Ok.excess c.ended.result c.ended.ensures) either)

pub returns-in-Err-clause-status : goal.returns-in-Err-clause-status
returns-in-Err-clause-status g c = among_five c.status.result (fault_status c.in-Err.fault c.status.result c.status.ensures)

pub returns-in-Err-clause-asked : goal.returns-in-Err-clause-asked
returns-in-Err-clause-asked g c =
    asked_status (asked (option_map (λ text. text.now) c.args.settings) (option_map (λ word. word.now) c.args.breaks)) (g.R.Read.remaining c.args.input.now) c.in-Err.fault c.status.result c.status.ensures c.in-Err.ensures.fails

pub returns-in-Err-clause-settings : goal.returns-in-Err-clause-settings
returns-in-Err-clause-settings g c = λ one.
    settings_status (asked (option_map (λ text. text.now) c.args.settings) (option_map (λ word. word.now) c.args.breaks)) (g.R.Read.remaining c.args.input.now) c.in-Err.fault c.in-Err.ensures.fails (sym c.status.ensures ∙ one)

pub returns-in-Err-clause-read : goal.returns-in-Err-clause-read
returns-in-Err-clause-read g c = λ all. absurd (not_printed c.status.result (fault_status c.in-Err.fault c.status.result c.status.ensures) all)

pub returns-in-Err-clause-printed : goal.returns-in-Err-clause-printed
returns-in-Err-clause-printed g c = λ all.
    absurd (not_printed c.status.result (fault_status c.in-Err.fault c.status.result c.status.ensures) all)

pub returns-in-Err-clause-bad : goal.returns-in-Err-clause-bad
returns-in-Err-clause-bad g c = λ two.
    two_status (option_map (λ text. text.now) c.args.settings) (option_map (λ word. word.now) c.args.breaks) (g.R.Read.remaining c.args.input.now) c.in-Err.fault c.in-Err.ensures.fails (sym c.status.ensures ∙ two)
