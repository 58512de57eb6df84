-- SPDX-License-Identifier: MIT OR Apache-2.0
use Rattle.std.proofs.Common.{◌≡◌, ◌∙◌, ◌++◌, List, ap, subst}
use Rattle.conn_messages.specs.declared.message.Message.{Message}
use Rattle.conn_messages.specs.Out.{IsSound, outs_of}
use Rattle.std.specs.List.{AllByRecursion}
use Rattle.conn_rules.specs.Connection.{Connection}
use Rattle.conn_rules.specs.Steps.{done_at}
use Rattle.conn_fsm.specs.Leaving.{leaving}
use Rattle.conn_fsm.proofs.Leaving.{does_next, does_outs}
use Rattle.conn_fsm.proofs.machine.Machine.release.Goals as goal

pub returns-clause-done : goal.returns-clause-done
returns-clause-done c =
    let s : Connection = c.args.self.now in
    let number : c.leaving-leaves.result ≡ leaving (done_at c.args.place s.draining) =
    c.leaving-leaves.ensures.number ∙ ap (λ (u : Connection). leaving (done_at c.args.place u.draining)) c.self.view_is in (
      does_next c.args.reference c.args.stage.now c.args.place c.args.offer.now c.leaving-leaves.result c.begins_without-begins.result s
          c.mark_done.new.self c.leave.new.self c.settle.new.self c.begin_waiting.new.self
          number c.begins_without-begins.ensures c.mark_done.ensures c.leave.ensures c.settle.ensures c.begin_waiting.ensures,
      c.in_ok-put.ensures.ok
          ∙ ap (λ (all : List Message). c.args.outputs.now.outs ++ outs_of s.number all)
          (does_outs c.args.reference c.args.stage.now c.args.place c.args.offer.now c.leaving-leaves.result c.begins_without-begins.result s
          c.new-put.result c.put_left.new.put c.put_waiting.new.put
          number c.begins_without-begins.ensures c.new-put.ensures c.in_ok-put_left.ensures c.in_ok-put_waiting.ensures),
      subst (AllByRecursion IsSound)
          (does_outs c.args.reference c.args.stage.now c.args.place c.args.offer.now c.leaving-leaves.result c.begins_without-begins.result s
          c.new-put.result c.put_left.new.put c.put_waiting.new.put
          number c.begins_without-begins.ensures c.new-put.ensures c.in_ok-put_left.ensures c.in_ok-put_waiting.ensures)
          c.in_ok-put.ensures.sound,
    )
