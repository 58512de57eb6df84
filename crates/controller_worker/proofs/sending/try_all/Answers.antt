-- SPDX-License-Identifier: MIT OR Apache-2.0
use Rattle.std.proofs.Common.{[], refl, sym, ◌∙◌, arith}
use Rattle.atomic_table.proofs.Lists.{at_index}
use Rattle.controller_worker.proofs.Outputs.{all_none, some_all_both, tried_at}
use Rattle.controller_worker.proofs.sending.try_all.Goals as goal

pub loop-link-init : goal.loop-link-init
loop-link-init g c = (c.requires, refl, ([], all_none c.args.putters.now.items c.args.marks.now.items))

pub loop-link-preserved : goal.loop-link-preserved
loop-link-preserved g c =
    let so_far = c.loop-link.invariant in
    let k = c.loop-link-test.true in
    let l = c.len-link-end.ensures in
    let n = so_far.0 in
    let m = so_far.1 in
    let here =
    tried_at c.loop-link.putters.items c.loop-link.marks.items c.loop-link.link c.index_mut.result.now c.put_waiting.new.putter c.index_mut-in-loop-link.result.now
    (record { added = c.index_mut-in-loop-link.result.now.added; down = c.index_mut-in-loop-link.result.now.down; waiting = c.put_waiting.new.waiting }) so_far.0
    (at_index c.loop-link.putters.items c.loop-link.link c.index_mut.result.now (omega (arith, c.args.putters.now.ok.0)) c.index_mut.ensures.value)
    (at_index c.loop-link.marks.items c.loop-link.link c.index_mut-in-loop-link.result.now (omega (arith, c.args.putters.now.ok.0)) c.index_mut-in-loop-link.ensures.value) refl
    c.put_waiting.ensures in (
      here.1.marks ∙ so_far.0 ∙ sym here.1.count,
      here.1.count ∙ so_far.1,
      some_all_both c.args.putters.now.items c.args.marks.now.items c.loop-link.putters.items c.loop-link.marks.items _ _ [] [] so_far.2 here,
    )

pub returns : goal.returns
returns g c = c.loop-link.invariant.2
