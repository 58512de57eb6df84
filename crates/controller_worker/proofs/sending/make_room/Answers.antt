-- SPDX-License-Identifier: MIT OR Apache-2.0
use Rattle.std.proofs.Common.{◌≡◌, [], length, refl, ap, arith}
use Rattle.controller_worker.proofs.Outboxes.{some_as, some_both}
use Rattle.controller_worker.proofs.sending.make_room.Goals as goal

pub loop-preserved-then-not-try_first : goal.loop-preserved-then-not-try_first
loop-preserved-then-not-try_first g c = (
  tt,
  tt,
  some_as c.args.putter.now c.try_first.new.putter c.ring.new.self c.args.waiting.now c.try_first.new.waiting c.try_first.new.waiting c.ring.ensures refl
      (some_both c.args.putter.now c.loop.putter c.try_first.new.putter c.args.waiting.now [] c.loop.waiting [] c.try_first.new.waiting c.loop.invariant.2 c.try_first.ensures),
  λ few.
      let same : length c.loop.waiting ≡ length c.args.waiting.now = ap (λ fs. length fs) (c.loop.invariant.3 few).0 in
      let full = c.is_full.ensures.0 c.if-not-is_full.false in absurd (omega (arith, few, full, same)),
)

pub loop-preserved : goal.loop-preserved
loop-preserved g c = (
  tt,
  tt,
  some_both c.args.putter.now c.loop.putter c.try_first.new.putter c.args.waiting.now [] c.loop.waiting [] c.try_first.new.waiting c.loop.invariant.2 c.try_first.ensures,
  λ few.
      let same : length c.loop.waiting ≡ length c.args.waiting.now = ap (λ fs. length fs) (c.loop.invariant.3 few).0 in
      let full = c.is_full.ensures.0 c.if-not-is_full.false in absurd (omega (arith, few, full, same)),
)
