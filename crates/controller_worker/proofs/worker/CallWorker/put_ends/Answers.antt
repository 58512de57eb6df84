-- SPDX-License-Identifier: MIT OR Apache-2.0
use Rattle.std.proofs.Common.{length, refl, ap, ◌∙◌, arith}
use Rattle.atomic_table.proofs.Lists.{at_index}
use Rattle.controller_worker.specs.Seen.{seen}
use Rattle.controller_worker.proofs.Marking.{ends_both, ends_one}
use Rattle.controller_worker.proofs.Turns.{mark_here}
use Rattle.controller_worker.proofs.worker.CallWorker.put_ends.Goals as goal

pub loop-link-preserved : goal.loop-link-preserved
loop-link-preserved g c =
    let so_far = c.loop-link.invariant in
    let k = c.loop-link-test.true in
    let l = c.len-link-end.ensures in
    let n = so_far.2 in
    let m = ap (λ s. length s.marks) so_far.0.kept in
    let o = c.requires in (
      ends_both _ _ _ so_far.0
          (ends_one (seen g.K.Clock.told c.loop-link.self) c.loop-link.link c.index_mut.result.now c.put_end.new.putter so_far.1
          (at_index c.loop-link.self.putters.items c.loop-link.link c.index_mut.result.now (omega (arith, c.loop-link.self.putters.ok.0)) c.index_mut.ensures.value)
          (ap (λ y. y.waiting) (mark_here c.loop-link.self.marks.items c.loop-link.link c.index-mark.result.now (omega (arith, c.loop-link.self.putters.ok.0)) c.index-mark.ensures)
          ∙ c.if-not-is_empty.ensures.0 refl) c.if-not-put_end.ensures),
      refl,
      so_far.2,
    )
