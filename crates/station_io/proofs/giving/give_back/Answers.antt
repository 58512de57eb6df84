-- SPDX-License-Identifier: MIT OR Apache-2.0
use Rattle.std.proofs.Common.{◌≡◌, List, sym, ◌∙◌, ap, arith, map, subst, length}
use Rattle.std.specs.Vec.Iter.{into_iter_items, into_iter_len}
use Rattle.ruled_relay.specs.Inbox.{AreJoined, PassView}
use Rattle.thread_crew.proofs.Lists.{counts, none_left}
use Rattle.station_io.proofs.GivingBack.{gives_none, gives_next, gives_all}
use Rattle.station_io.proofs.giving.give_back.Goals as goal

pub loop-read-init : goal.loop-read-init
loop-read-init g c =
    let room = c.requires.room in
    let read = c.into_iter-read-iterator.ensures.into_iter_gives in
    let writers = c.into_iter-writers.ensures in
    let putters = c.into_iter-putters.ensures in
    let lens = c.requires.count in
    let a = writers.len in
    let b = read.1 in
    let d = putters.len in (
      tt,
      tt,
      read.1 ∙ c.args.read.ok.0 ∙ sym (ap length read.0),
      omega arith,
      writers.len ∙ c.args.written.ok.0 ∙ sym (ap length writers.rest),
      omega arith,
      omega (arith, c.args.room.back.ok.0, ap length room.0),
      omega (arith, c.args.room.passes.ok.0, ap length room.1),
      gives_none c.args.read.items c.args.written.items c.args.called.putters.items (into_iter_items c.into_iter-read-iterator.result) (into_iter_items c.into_iter-writers.result)
          (into_iter_items c.into_iter-putters.result) c.args.room.back.items c.args.room.passes.items read.0 writers.rest putters.rest room.0 room.1 c.requires.outboxes,
    )

pub loop-read-preserved : goal.loop-read-preserved
loop-read-preserved g c =
    let so_far = c.loop-read.invariant in
    let now = c.loop-read in
    let read = c.in-Some.ensures.steps in
    let written = c.in-Some-next.ensures.cases in
    let putter = c.in-Some-next-2.ensures.cases in
    let put_b = c.push_reserved.ensures in
    let put_p = c.push_reserved-in-loop-read.ensures in
    let a = read.1 in
    let b = written.1 in
    let d = putter.1 in (
      tt,
      tt,
      counts (into_iter_len now.read-iterator) (into_iter_len c.next.new.self) c.in-Some.read (into_iter_items now.read-iterator) (into_iter_items c.next.new.self) so_far.2 read.0 read.1,
      omega arith,
      counts (into_iter_len now.writers) (into_iter_len c.next-in-loop-read.new.self) c.in-Some-next.written (into_iter_items now.writers) (into_iter_items c.next-in-loop-read.new.self) so_far.4 written.0 written.1,
      omega arith,
      omega (arith, put_b.len, put_b.capacity),
      omega (arith, put_p.len, put_p.capacity),
      gives_next (into_iter_items now.read-iterator) c.args.read.items (into_iter_items c.next.new.self) (into_iter_items now.writers) c.args.written.items (into_iter_items c.next-in-loop-read.new.self)
          (into_iter_items now.putters) c.args.called.putters.items (into_iter_items c.next-in-loop-read-2.new.self) now.back.items c.push_reserved.new.self.items now.passes.items
          c.push_reserved-in-loop-read.new.self.items c.in-Some.read c.in-Some-next.written c.in-Some-next-2.putter c.give_one-one.result.0 c.give_one-one.result.1 so_far.8 read.0 written.0 putter.0
          c.give_one-one.ensures.back c.give_one-one.ensures.pass c.give_one-one.ensures.outbox put_b.items put_p.items,
    )

pub finish-left-requires : goal.finish-left-requires
finish-left-requires g c =
    let so_far = c.loop-read.invariant in
    let now = c.loop-read in
    let none = c.in-None.ensures.steps.0 in
    let all = gives_all (into_iter_items now.read-iterator) c.args.read.items (into_iter_items now.writers) c.args.written.items (into_iter_items now.putters) c.args.called.putters.items now.back.items now.passes.items
    so_far.8 (none_left (into_iter_items now.read-iterator) (sym so_far.2 ∙ none)) (none_left (into_iter_items now.writers) (sym so_far.4 ∙ so_far.3 ∙ none)) in
    c.requires.inbox ∙ ap (map (λ (p : PassView). p.queue)) (sym all.1)

pub returns-clause-outboxes : goal.returns-clause-outboxes
returns-clause-outboxes g c =
    let so_far = c.loop-read.invariant in
    let now = c.loop-read in
    let none = c.in-None.ensures.steps.0 in
    (gives_all (into_iter_items now.read-iterator) c.args.read.items (into_iter_items now.writers) c.args.written.items (into_iter_items now.putters) c.args.called.putters.items now.back.items now.passes.items
    so_far.8 (none_left (into_iter_items now.read-iterator) (sym so_far.2 ∙ none)) (none_left (into_iter_items now.writers) (sym so_far.4 ∙ so_far.3 ∙ none))).2

pub returns-clause-inbox : goal.returns-clause-inbox
returns-clause-inbox g c =
    let so_far = c.loop-read.invariant in
    let now = c.loop-read in
    let none = c.in-None.ensures.steps.0 in
    let all = gives_all (into_iter_items now.read-iterator) c.args.read.items (into_iter_items now.writers) c.args.written.items (into_iter_items now.putters) c.args.called.putters.items now.back.items now.passes.items
    so_far.8 (none_left (into_iter_items now.read-iterator) (sym so_far.2 ∙ none)) (none_left (into_iter_items now.writers) (sym so_far.4 ∙ so_far.3 ∙ none)) in
    (c.finish-left.result, subst (λ (ps : List PassView). AreJoined c.args.called.desk ps c.finish-left.result) all.1 c.finish-left.ensures)
