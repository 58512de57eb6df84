-- SPDX-License-Identifier: MIT OR Apache-2.0
use Rattle.std.proofs.Common.{[], refl, sym, ◌∙◌, arith}
use Rattle.atomic_table.proofs.Lists.{at_index}
use Rattle.controller_worker.proofs.Outputs.{open_at, open_none, sent_at, sent_past}
use Rattle.controller_worker.proofs.sending.send_to.Goals as goal

pub returns-then-link-len-clause-sent : goal.returns-then-link-len-clause-sent
returns-then-link-len-clause-sent g c =
    let k = c.if-link-len.true in
    let l = c.len.ensures in
    let e = c.from-link.ensures in ([], sent_past c.args.putters.now.items c.args.marks.now.items c.args.out (omega (arith, c.args.putters.now.ok.0)))

pub returns-then-link-len-clause-remain : goal.returns-then-link-len-clause-remain
returns-then-link-len-clause-remain g c = λ h. open_none c.args.putters.now.items

pub returns-clause-sent : goal.returns-clause-sent
returns-clause-sent g c =
    let k = c.if-link-len.false in
    let l = c.len.ensures in
    let n = c.requires in
    sent_at c.args.putters.now.items c.args.marks.now.items c.from-link.result c.args.out c.index_mut-putter.result.now c.send-waits.new.putter c.index_mut-mark.result.now _ c.requires c.from-link.ensures
    (at_index c.args.putters.now.items c.from-link.result c.index_mut-putter.result.now (omega (arith, c.args.putters.now.ok.0)) c.index_mut-putter.ensures.value)
    (at_index c.args.marks.now.items c.from-link.result c.index_mut-mark.result.now (omega (arith, c.args.putters.now.ok.0)) c.index_mut-mark.ensures.value) refl c.send-waits.ensures

pub returns-clause-remain : goal.returns-clause-remain
returns-clause-remain g c = λ h. open_at c.args.putters.now.items c.from-link.result c.send-waits.new.putter (sym c.is_given_up-gives_up.ensures ∙ h)
