-- SPDX-License-Identifier: MIT OR Apache-2.0
use Rattle.std.proofs.Common.{sym, arith}
use Rattle.controller_worker.specs.Seen.{seen}
use Rattle.controller_worker.proofs.Turns.{all_settled, is_pending, not_pending}
use Rattle.controller_worker.proofs.worker.CallWorker.pending.Goals as goal

pub returns-then-is_pending : goal.returns-then-is_pending
returns-then-is_pending g c =
    let k = c.loop-link-test.true in
    let l = c.sources-link-end.ensures in
    let n = c.requires.sources in
    is_pending (seen g.K.Clock.told c.args.self.now) c.loop-link.link c.from.result c.from-in-loop-link.result c.index-putter.result.now c.index-mark.result.now c.requires c.from.ensures c.from-in-loop-link.ensures
    (omega arith) c.index-putter.ensures c.index-mark.ensures (sym c.if-is_pending.ensures)

pub loop-link-preserved : goal.loop-link-preserved
loop-link-preserved g c =
    let k = c.loop-link-test.true in
    let l = c.sources-link-end.ensures in
    let n = c.requires.sources in
    not_pending (seen g.K.Clock.told c.args.self.now) c.loop-link.link c.from.result c.from-in-loop-link.result c.index-putter.result.now c.index-mark.result.now c.requires c.from.ensures c.from-in-loop-link.ensures
    (omega arith) c.index-putter.ensures c.index-mark.ensures (sym c.if-is_pending.ensures) c.loop-link.invariant

pub returns : goal.returns
returns g c =
    let k = c.loop-link-test.false in
    let l = c.sources-link-end.ensures in
    let n = c.requires.sources in
    all_settled (seen g.K.Clock.told c.args.self.now) c.loop-link.link (omega arith) c.loop-link.invariant
