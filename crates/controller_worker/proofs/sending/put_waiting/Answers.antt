-- SPDX-License-Identifier: MIT OR Apache-2.0
use Rattle.std.proofs.Common.{[], refl, ◌∙◌}
use Rattle.controller_worker.specs.Advancing.{SendsSome}
use Rattle.controller_worker.proofs.Outboxes.{some_as, some_both}
use Rattle.controller_worker.proofs.sending.put_waiting.Goals as goal
use Rattle.controller_worker.proofs.sending.put_waiting.Goals.{else-loop-test, then-loop-test+then-is_given_up, then-is_given_up-via-then-is_given_up, then-is_given_up-via-else-is_given_up+then-not-try_first}

pub loop-preserved : goal.loop-preserved
loop-preserved g c = some_both c.args.putter.now c.loop.putter c.try_first.new.putter c.args.waiting.now [] c.loop.waiting [] c.try_first.new.waiting c.loop.invariant c.try_first.ensures

pub returns : goal.returns
returns g c =
    let at_end : SendsSome c.args.putter.now c.args.waiting.now [] c.loop-test.putter c.loop-test.waiting = elim c.loop-test.branch [
      | else-loop-test w ↦
          some_as c.args.putter.now c.loop.putter c.loop-test.putter c.args.waiting.now c.loop.waiting c.loop-test.waiting w.putter-is w.waiting-is c.loop.invariant
      | then-loop-test+then-is_given_up w ↦ elim w.then-is_given_up.branch [
        | then-is_given_up-via-then-is_given_up v ↦
            some_as c.args.putter.now c.loop.putter c.loop-test.putter c.args.waiting.now c.loop.waiting c.loop-test.waiting (w.putter-is ∙ v.putter-is) (w.waiting-is ∙ v.waiting-is)
            c.loop.invariant
        | then-is_given_up-via-else-is_given_up+then-not-try_first v ↦
            some_as c.args.putter.now v.try_first.new.putter c.loop-test.putter c.args.waiting.now v.try_first.new.waiting c.loop-test.waiting (w.putter-is ∙ v.putter-is)
            (w.waiting-is ∙ v.waiting-is)
            (some_both c.args.putter.now c.loop.putter v.try_first.new.putter c.args.waiting.now [] c.loop.waiting [] v.try_first.new.waiting c.loop.invariant v.try_first.ensures)
      ]
    ] in
    some_as c.args.putter.now c.loop-test.putter c.ring.new.self c.args.waiting.now c.loop-test.waiting c.loop-test.waiting c.ring.ensures refl at_end
