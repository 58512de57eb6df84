-- SPDX-License-Identifier: MIT OR Apache-2.0
use Rattle.std.proofs.Common.{Option, ap, sym, ◌∙◌, ℕ}
use Rattle.run_judge.specs.ConnectionState.{ConnectionState}
use Rattle.run_judge.specs.Judging.{without_switch_reference}
use Rattle.run_judge.specs.JudgeState.{entries_at, shown}
use Rattle.run_judge.proofs.JudgeLemmas.{ended-found, ended-missing, entries_at-lookup}
use Rattle.run_judge.proofs.judge.Judge.end.Goals as goal

pub returns-in_err-connection-clause-connection : goal.returns-in_err-connection-clause-connection
returns-in_err-connection-clause-connection c =
    c.from_residual.ensures ∙ c.in_err-connection.ensures.value ∙ sym (entries_at-lookup c.args.self.now.connections.entries c.args.reference)

pub returns-in_err-connection-clause-new : goal.returns-in_err-connection-clause-new
returns-in_err-connection-clause-new c =
    ended-missing (shown c.args.self.now) c.args.self.now.connections.entries c.swap_remove.new.self.entries c.args.reference
    c.in_err-connection.ensures.value c.in_err-connection.ensures.unchanged

pub returns-clause-connection : goal.returns-clause-connection
returns-clause-connection c = c.in_ok-connection.ensures.value ∙ sym (entries_at-lookup c.args.self.now.connections.entries c.args.reference)

pub returns-clause-new : goal.returns-clause-new
returns-clause-new c =
    c.free_switch_reference.ensures.new
    ∙ ap (λ (o : Option ℕ). without_switch_reference o c.args.reference (record (shown c.args.self.now) { connections = entries_at c.swap_remove.new.self.entries }))
    (ap (λ (s : ConnectionState). s.switch) c.connection.view_is)
    ∙ ended-found (shown c.args.self.now) c.args.self.now.connections.entries c.swap_remove.new.self.entries c.args.reference c.in_ok-connection.connection
    c.in_ok-connection.ensures.value c.swap_remove.ensures.updates.0
