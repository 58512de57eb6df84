-- SPDX-License-Identifier: MIT OR Apache-2.0
use Rattle.std.proofs.Common.{ℕ, List, [], Option, Some, unwrap_or, refl, sym, ap, ◌∙◌, subst, codes}
use Rattle.std.specs.Prelude.{IsSomeAnd}
use Rattle.clap.specs.Words.{found_of, rows_of}
use Rattle.std.specs.Borrow.{Bor}
use Rattle.clap.proofs.WalkLemmas.{first_value-rows}
use Rattle.program_base.specs.declared.words.Task.TheVariants.{Run, Replay, Decode}
use Rattle.program_base.proofs.Taking.{is_decode, is_replay, is_run, task_by, unwrap_or-now}
use Rattle.program_base.proofs.Entering.{IsKnown, known_name, unknown}
use Rattle.program_base.proofs.parsing.found_task.Goals as goal

pub returns-in-run-clause-found : goal.returns-in-run-clause-found
returns-in-run-clause-found c =
    let said = c.in-Some in
    let settings = c.in_ok-from_str-in-run.ensures.ok ∙ ap (λ (t : Bor (List ℕ)). t.now) c.unwrap_or-settings.ensures ∙ unwrap_or-now c.get_str.result _ refl
    ∙ ap (λ (o : Option (List ℕ)). unwrap_or o []) (c.get_str.ensures ∙ first_value-rows (found_of said.options.now) (codes "config")) in
    task_by c.in_ok-matches.matches _ (Run c.in_ok-from_str-in-run.field-0) (codes "run") (rows_of (found_of said.options.now)) c.in_ok-matches.ensures.found
    (ap (λ (t : List ℕ). Some t) (sym c.in-run.is) ∙ said.ensures.name) said.ensures.rows (is_run _ _ settings)

pub returns-in-replay-clause-found : goal.returns-in-replay-clause-found
returns-in-replay-clause-found c =
    let said = c.in-Some in
    let settings = c.in_ok-settings-in-replay.ensures ∙ c.get_str-in-replay.ensures ∙ first_value-rows (found_of said.options.now) (codes "config") in
    let breaks = c.in_ok-breaks-in-replay.ensures ∙ c.get_str-in-replay-2.ensures ∙ first_value-rows (found_of said.options.now) (codes "break") in
    task_by c.in_ok-matches.matches _ (Replay c.in_ok-settings-in-replay.settings c.in_ok-breaks-in-replay.breaks) (codes "replay") (rows_of (found_of said.options.now))
    c.in_ok-matches.ensures.found (ap (λ (t : List ℕ). Some t) (sym c.in-replay.is) ∙ said.ensures.name) said.ensures.rows (is_replay _ _ _ settings breaks)

pub returns-in-decode-clause-found : goal.returns-in-decode-clause-found
returns-in-decode-clause-found c =
    let said = c.in-Some in
    task_by c.in_ok-matches.matches _ Decode (codes "decode") _ c.in_ok-matches.ensures.found (ap (λ (t : List ℕ). Some t) (sym c.in-decode.is) ∙ said.ensures.name) said.ensures.rows (is_decode _)

pub unreachable-requires : goal.unreachable-requires
unreachable-requires c =
    subst (λ o. IsSomeAnd o IsKnown) (sym c.in_default.ensures.name) (known_name c.in_ok-matches.matches _ c.in_ok-matches.ensures.taken c.in_ok-matches.ensures.found)

pub unreachable-requires-in_default-name : goal.unreachable-requires-in_default-name
unreachable-requires-in_default-name c =
    let known = known_name c.in_ok-matches.matches _ c.in_ok-matches.ensures.taken c.in_ok-matches.ensures.found in
    unknown c.in-Some.name.now _ c.in-Some.ensures.name c.in_default-name.not-run c.in_default-name.not-replay c.in_default-name.not-decode known
