-- SPDX-License-Identifier: MIT OR Apache-2.0
use Rattle.std.proofs.Common.{◌≡◌, if◌then◌else◌, Some, None, sym, ap, ◌∙◌}
use Rattle.std.specs.Option.{option_copied}
use Rattle.std.proofs.lemmas.Bool.{eq-eqb}
use Rattle.run_judge.specs.declared.channels.ChannelView.TheVariants as views
use Rattle.run_judge.specs.Channels.{view_at}
use Rattle.run_judge.specs.ConnectionState.{ConnectionState}
use Rattle.run_judge.specs.JudgeState.{shown}
use Rattle.run_judge.proofs.JudgeLemmas.{entries_at-lookup, if_other, owner_of-found, owner_of-missing}
use Rattle.run_judge.proofs.judge.Judge.owner.Goals as goal

pub returns-in_err-connection-in-Some-Owned : goal.returns-in_err-connection-in-Some-Owned
returns-in_err-connection-in-Some-Owned c =
    let reference = c.in-Some-Owned.reference in
    let number = c.in-Some-Owned.number in
    let j = shown c.args.self.now in
    let owned : views.Owned reference number ≡ view_at c.args.self.now.channels c.args.at = sym c.in-Some-Owned.field-0-is ∙ c.in-Some-Owned.ensures in
    ap option_copied c.from_residual.ensures
    ∙ owner_of-missing j c.args.at reference number owned (c.in_err-connection-in-Some-Owned.ensures.value ∙ sym (entries_at-lookup c.args.self.now.connections.entries reference))

pub returns-then-connection-number : goal.returns-then-connection-number
returns-then-connection-number c =
    let reference = c.in-Some-Owned.reference in
    let number = c.in-Some-Owned.number in
    let connection : ConnectionState = c.in_ok-connection-in-Some-Owned.connection.now in
    let owned : views.Owned reference number ≡ view_at c.args.self.now.channels c.args.at = sym c.in-Some-Owned.field-0-is ∙ c.in-Some-Owned.ensures in
    let same : connection.number ≡ number = sym (ap (λ (s : ConnectionState). s.number) c.connection.view_is) ∙ c.if-connection-number.true in
    sym (ap (λ b. if b then Some connection else None) (eq-eqb connection.number number same))
    ∙ owner_of-found (shown c.args.self.now) c.args.at reference number owned connection
    (c.in_ok-connection-in-Some-Owned.ensures.value ∙ sym (entries_at-lookup c.args.self.now.connections.entries reference))

pub returns-else-connection-number : goal.returns-else-connection-number
returns-else-connection-number c =
    let reference = c.in-Some-Owned.reference in
    let number = c.in-Some-Owned.number in
    let connection : ConnectionState = c.in_ok-connection-in-Some-Owned.connection.now in
    let owned : views.Owned reference number ≡ view_at c.args.self.now.channels c.args.at = sym c.in-Some-Owned.field-0-is ∙ c.in-Some-Owned.ensures in
    sym (if_other connection.number number connection
    (λ same. c.if-connection-number.false (ap (λ (s : ConnectionState). s.number) c.connection.view_is ∙ same)))
    ∙ owner_of-found (shown c.args.self.now) c.args.at reference number owned connection
    (c.in_ok-connection-in-Some-Owned.ensures.value ∙ sym (entries_at-lookup c.args.self.now.connections.entries reference))
