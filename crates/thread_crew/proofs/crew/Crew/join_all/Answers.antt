-- SPDX-License-Identifier: MIT OR Apache-2.0
use Rattle.std.proofs.Common.{arith, sym, ◌∙◌}
use Rattle.std.specs.Vec.Iter.{into_iter_items, into_iter_len}
use Rattle.thread_crew.proofs.Lists.{joins_one, joins_none, all_joined, none_left, counts}
use Rattle.thread_crew.proofs.crew.Crew.join_all.Goals as goal

pub loop-thread-preserved-in-Some-join : goal.loop-thread-preserved-in-Some-join
loop-thread-preserved-in-Some-join g c =
    let so_far = c.loop-thread.invariant in
    let steps = c.in-Some.ensures.steps in
    let count = steps.1 in
    let counted = counts (into_iter_len c.loop-thread.thread-iterator) (into_iter_len c.next.new.self) c.in-Some.thread (into_iter_items c.loop-thread.thread-iterator) (into_iter_items c.next.new.self) so_far.2 steps.0 steps.1 in
    let put = c.push_reserved.ensures in (
      tt,
      tt,
      counted,
      omega (arith, put.len, put.capacity),
      joins_one (into_iter_items c.loop-thread.thread-iterator) (into_iter_items c.next.new.self) c.in-Some.thread (λ t. t.promise.worker.value) g.W.Worker.does c.args.self
          c.loop-thread.all_began c.loop-thread.done.items c.push_reserved.new.self.items c.in-Some-join.given so_far.4 steps.0 c.in-Some-join.ensures put.items,
    )

pub loop-thread-preserved : goal.loop-thread-preserved
loop-thread-preserved g c =
    let so_far = c.loop-thread.invariant in
    let steps = c.in-Some.ensures.steps in
    let count = steps.1 in
    let counted = counts (into_iter_len c.loop-thread.thread-iterator) (into_iter_len c.next.new.self) c.in-Some.thread (into_iter_items c.loop-thread.thread-iterator) (into_iter_items c.next.new.self) so_far.2 steps.0 steps.1 in (
      tt,
      tt,
      counted,
      omega arith,
      joins_none (into_iter_items c.loop-thread.thread-iterator) (into_iter_items c.next.new.self) c.in-Some.thread (λ t. t.promise.worker.value) g.W.Worker.does c.args.self
          c.loop-thread.all_began c.loop-thread.done.items so_far.4 steps.0,
    )

pub returns-then-all_began : goal.returns-then-all_began
returns-then-all_began g c =
    let so_far = c.loop-thread.invariant in
    let rest = into_iter_items c.loop-thread.thread-iterator in
    all_joined rest (λ t. t.promise.worker.value) g.W.Worker.does c.args.self c.loop-thread.done.items
    (rw c.if-all_began.true at so_far.4) (none_left rest (sym so_far.2 ∙ c.in-None.ensures.steps.0))
