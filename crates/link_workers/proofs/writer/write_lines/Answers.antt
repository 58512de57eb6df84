-- SPDX-License-Identifier: MIT OR Apache-2.0
use Rattle.std.proofs.Common.{Ok, Err, subst}
use Rattle.std.specs.Io.KnownBytes.{Appends}
use Rattle.link_workers.specs.Writing.{Gathers, WritesText}
use Rattle.link_workers.proofs.Gathering.{broken_gathering, broken_writing, writes_all, writes_kept, writes_more}
use Rattle.link_workers.proofs.writer.write_lines.Goals as goal

pub returns-in-Err : goal.returns-in-Err
returns-in-Err g c =
    let kept = writes_kept (g.O.Write.contents c.args.writer.now) (g.O.Write.contents c.loop.writer) (g.O.Write.contents c.gather.new.writer) c.args.taker.now c.loop.taker c.loop.invariant.2 c.in-Err.ensures.same in
    broken_gathering (g.O.Write.contents c.args.writer.now) (g.O.Write.contents c.gather.new.writer) c.args.taker.now c.loop.taker c.gather.new.taker c.clear.new.self.items c.gather.new.text.items c.in-Err.fault
    kept c.in-Err.ensures.gathers

pub returns-in-Err-write_octets : goal.returns-in-Err-write_octets
returns-in-Err-write_octets g c =
    let kept = writes_kept (g.O.Write.contents c.args.writer.now) (g.O.Write.contents c.loop.writer) (g.O.Write.contents c.gather.new.writer) c.args.taker.now c.loop.taker c.loop.invariant.2 c.in-Ok.ensures.same in
    let wrote =
    subst (λ text. WritesText {X = Unit {0}} (g.O.Write.contents c.gather.new.writer) (g.O.Write.contents c.write_octets.new.writer) text (Err c.in-Err-write_octets.fault)) c.as_slice.ensures.value c.in-Err-write_octets.ensures
    in
    broken_writing (g.O.Write.contents c.args.writer.now) (g.O.Write.contents c.gather.new.writer) (g.O.Write.contents c.write_octets.new.writer) c.args.taker.now c.loop.taker c.gather.new.taker c.clear.new.self.items c.gather.new.text.items
    c.in-Ok.at_end c.in-Err-write_octets.fault kept c.in-Ok.ensures.gathers c.clear.ensures.items wrote

pub returns-then-at_end : goal.returns-then-at_end
returns-then-at_end g c =
    let kept = writes_kept (g.O.Write.contents c.args.writer.now) (g.O.Write.contents c.loop.writer) (g.O.Write.contents c.gather.new.writer) c.args.taker.now c.loop.taker c.loop.invariant.2 c.in-Ok.ensures.same in
    let wrote = subst (Appends (g.O.Write.contents c.gather.new.writer) (g.O.Write.contents c.write_octets.new.writer)) c.as_slice.ensures.value c.in_default.ensures in
    let gathers = subst (λ at_end. Gathers c.loop.taker c.gather.new.taker c.clear.new.self.items c.gather.new.text.items (Ok at_end)) c.if-at_end.true c.in-Ok.ensures.gathers in
    writes_all (g.O.Write.contents c.args.writer.now) (g.O.Write.contents c.gather.new.writer) (g.O.Write.contents c.write_octets.new.writer) c.args.taker.now c.loop.taker c.gather.new.taker c.clear.new.self.items c.gather.new.text.items
    kept gathers c.clear.ensures.items wrote

pub loop-preserved : goal.loop-preserved
loop-preserved g c =
    let kept = writes_kept (g.O.Write.contents c.args.writer.now) (g.O.Write.contents c.loop.writer) (g.O.Write.contents c.gather.new.writer) c.args.taker.now c.loop.taker c.loop.invariant.2 c.in-Ok.ensures.same in
    let wrote = subst (Appends (g.O.Write.contents c.gather.new.writer) (g.O.Write.contents c.write_octets.new.writer)) c.as_slice.ensures.value c.in_default.ensures in
    let gathers = subst (λ at_end. Gathers c.loop.taker c.gather.new.taker c.clear.new.self.items c.gather.new.text.items (Ok at_end)) c.if-at_end.false c.in-Ok.ensures.gathers in (
      tt,
      tt,
      writes_more (g.O.Write.contents c.args.writer.now) (g.O.Write.contents c.gather.new.writer) (g.O.Write.contents c.write_octets.new.writer) c.args.taker.now c.loop.taker c.gather.new.taker c.clear.new.self.items c.gather.new.text.items
          kept gathers c.clear.ensures.items wrote,
    )
