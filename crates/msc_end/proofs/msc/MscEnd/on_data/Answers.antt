-- SPDX-License-Identifier: MIT OR Apache-2.0
use Rattle.std.proofs.Common.{◌≡◌, ◌-◌, List, [], ◌∷◌, ◌++◌, Some, None, sym, ap, ◌∙◌, arith, append-nil, inl, inr}
use Rattle.msc_end.specs.Switch.{connection_of, message_in, replies_by}
use Rattle.msc_end.specs.declared.parameters.TheConstants.{REFERENCE_BASE}
use Rattle.msc_end.specs.SwitchState.{SwitchState}
use Rattle.msc_end.specs.declared.connection.Connection.{Connection}
use Rattle.bssmap_codec.specs.declared.sccp.Sccp.{Sccp}
use Rattle.msc_end.proofs.Answering.{appended}
use Rattle.msc_end.proofs.Places.{ended_silent, ended_state, switch_is, reply_is, silent}
use Rattle.msc_end.proofs.Wanting.{any_refusal, may_want, was_read}
use Rattle.msc_end.proofs.msc.MscEnd.on_data.Goals as goal
use Rattle.msc_end.proofs.msc.MscEnd.on_data.Goals.{then-number-eq0-via-then-number-eq0, then-number-eq0-via-else-number-eq0+then-number-len, in-Some-reply, in_default-reply}

pub returns-then-number-eq0-clause-replies : goal.returns-then-number-eq0-clause-replies
returns-then-number-eq0-clause-replies c =
    let n : c.saturating_sub-number.result ≡ c.args.destination - REFERENCE_BASE = omega arith in
    let view : c.self.inside.connections.items ≡ c.args.self.now.connections = ap (λ (s : SwitchState). s.connections) c.self.view_is in
    sym (append-nil c.args.out.now.items)
    ∙ ap (λ (ys : List Sccp). c.args.out.now.items ++ ys)
    ((elim c.then-number-eq0.branch [
      | then-number-eq0-via-then-number-eq0 w ↦ silent c.self.inside.connections.items _ c.args.destination (message_in c.args.user.now) n (inl (omega arith))
      | then-number-eq0-via-else-number-eq0+then-number-len w ↦ silent c.self.inside.connections.items _ c.args.destination (message_in c.args.user.now) n (inr (omega arith))
    ]) ∙ ap (λ (cs : List Connection). replies_by (connection_of cs (c.args.destination - REFERENCE_BASE)) (message_in c.args.user.now)) view)

pub returns-clause-state : goal.returns-clause-state
returns-clause-state c =
    let n : c.saturating_sub-number.result ≡ c.args.destination - REFERENCE_BASE = omega arith in
    let hm : message_in c.args.user.now ≡ Some c.in-Some.message = sym c.in_ok-message.ensures.reads ∙ c.in-Some.is in
    switch_is c.args.self.now _ c.self.inside.connections.items _ c.args.destination c.index_mut-connection.result.now _ c.in-Some.message c.args.user.now c.self.view_is n c.if-number-eq0.false (omega arith) c.index_mut-connection.ensures.value hm c.in_ok-reply.ensures.state

pub returns-clause-replies : goal.returns-clause-replies
returns-clause-replies c =
    let n : c.saturating_sub-number.result ≡ c.args.destination - REFERENCE_BASE = omega arith in
    let view : c.self.inside.connections.items ≡ c.args.self.now.connections = ap (λ (s : SwitchState). s.connections) c.self.view_is in
    let hm : message_in c.args.user.now ≡ Some c.in-Some.message = sym c.in_ok-message.ensures.reads ∙ c.in-Some.is in
    (elim c.match-reply.branch [
      | in-Some-reply w ↦ ap (λ v. v.items) w.out-is ∙ w.push_reserved.ensures.items ∙ ap (λ (xs : List Sccp). xs ++ w.in-Some-reply.reply ∷ []) c.reserve.ensures.items
          ∙ ap (λ (ys : List Sccp). c.args.out.now.items ++ ys)
          (reply_is c.self.inside.connections.items _ c.args.destination c.index_mut-connection.result.now c.in-Some.message (message_in c.args.user.now) (Some w.in-Some-reply.reply) n c.if-number-eq0.false (omega arith) c.index_mut-connection.ensures.value hm (sym w.in-Some-reply.is ∙ c.in_ok-reply.ensures.reply))
      | in_default-reply w ↦ ap (λ v. v.items) w.out-is ∙ c.reserve.ensures.items ∙ sym (append-nil c.args.out.now.items)
          ∙ ap (λ (ys : List Sccp). c.args.out.now.items ++ ys)
          (reply_is c.self.inside.connections.items _ c.args.destination c.index_mut-connection.result.now c.in-Some.message (message_in c.args.user.now) None n c.if-number-eq0.false (omega arith) c.index_mut-connection.ensures.value hm (sym w.in_default-reply.is ∙ c.in_ok-reply.ensures.reply))
    ])
    ∙ ap (λ (cs : List Connection). c.args.out.now.items ++ replies_by (connection_of cs (c.args.destination - REFERENCE_BASE)) (message_in c.args.user.now)) view

pub returns-then-number-eq0-clause-sent : goal.returns-then-number-eq0-clause-sent
returns-then-number-eq0-clause-sent c = appended _ _ c.args.self.now.connections c.args.destination c.args.user.now (λ i. omega (arith, c.type_inv.user i)) (returns-then-number-eq0-clause-replies c)

pub returns-clause-sent : goal.returns-clause-sent
returns-clause-sent c = appended _ _ c.args.self.now.connections c.args.destination c.args.user.now (λ i. omega (arith, c.type_inv.user i)) (returns-clause-replies c)

pub returns-then-has_ended-clause-state : goal.returns-then-has_ended-clause-state
returns-then-has_ended-clause-state c =
    let n : c.saturating_sub-number.result ≡ c.args.destination - REFERENCE_BASE = omega arith in
    ended_state c.args.self.now _ c.self.inside.connections.items _ c.args.destination c.index.result.now c.args.user.now c.self.view_is n c.if-number-eq0.false (omega arith) c.index.ensures
    (sym c.has_ended.ensures ∙ c.if-has_ended.true)

pub returns-then-has_ended-clause-replies : goal.returns-then-has_ended-clause-replies
returns-then-has_ended-clause-replies c =
    let n : c.saturating_sub-number.result ≡ c.args.destination - REFERENCE_BASE = omega arith in
    let view : c.self.inside.connections.items ≡ c.args.self.now.connections = ap (λ (s : SwitchState). s.connections) c.self.view_is in
    sym (append-nil c.args.out.now.items)
    ∙ ap (λ (ys : List Sccp). c.args.out.now.items ++ ys)
    (ended_silent c.self.inside.connections.items _ c.args.destination c.index.result.now (message_in c.args.user.now) n c.if-number-eq0.false (omega arith) c.index.ensures
    (sym c.has_ended.ensures ∙ c.if-has_ended.true)
    ∙ ap (λ (cs : List Connection). replies_by (connection_of cs (c.args.destination - REFERENCE_BASE)) (message_in c.args.user.now)) view)

pub returns-then-has_ended-clause-sent : goal.returns-then-has_ended-clause-sent
returns-then-has_ended-clause-sent c = appended _ _ c.args.self.now.connections c.args.destination c.args.user.now (λ i. omega (arith, c.type_inv.user i)) (returns-then-has_ended-clause-replies c)

pub returns-in_err-message-clause-memory : goal.returns-in_err-message-clause-memory
returns-in_err-message-clause-memory c =
    let n : c.saturating_sub-number.result ≡ c.args.destination - REFERENCE_BASE = omega arith in
    any_refusal c.from_residual.result _
    (may_want c.args.self.now _ c.self.inside.connections.items _ c.args.destination c.index.result.now c.args.user.now c.self.view_is n c.if-number-eq0.false (omega arith) c.index.ensures
    (sym c.has_ended.ensures ∙ c.if-has_ended.false) c.in_err-message.ensures.memory)

pub returns-in_err-reserve-clause-memory : goal.returns-in_err-reserve-clause-memory
returns-in_err-reserve-clause-memory c =
    let n : c.saturating_sub-number.result ≡ c.args.destination - REFERENCE_BASE = omega arith in
    any_refusal c.from_residual-in_err-reserve.result _
    (may_want c.args.self.now _ c.self.inside.connections.items _ c.args.destination c.index.result.now c.args.user.now c.self.view_is n c.if-number-eq0.false (omega arith) c.index.ensures
    (sym c.has_ended.ensures ∙ c.if-has_ended.false) (was_read _ c.in-Some.message (sym c.in_ok-message.ensures.reads ∙ c.in-Some.is)))

pub returns-in_err-reply-clause-memory : goal.returns-in_err-reply-clause-memory
returns-in_err-reply-clause-memory c =
    let n : c.saturating_sub-number.result ≡ c.args.destination - REFERENCE_BASE = omega arith in
    any_refusal c.from_residual-in_err-reply.result _
    (may_want c.args.self.now _ c.self.inside.connections.items _ c.args.destination c.index.result.now c.args.user.now c.self.view_is n c.if-number-eq0.false (omega arith) c.index.ensures
    (sym c.has_ended.ensures ∙ c.if-has_ended.false) (was_read _ c.in-Some.message (sym c.in_ok-message.ensures.reads ∙ c.in-Some.is)))
