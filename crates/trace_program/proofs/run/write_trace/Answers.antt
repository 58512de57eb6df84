-- SPDX-License-Identifier: MIT OR Apache-2.0
use Rattle.std.proofs.Common.{◌+◌, drop, ap}
use Rattle.dtap_codec.specs.Number.{count_of}
use Rattle.trace_program.proofs.Tracing.{counted_below, left_more, lines_are, tally_more, traces_more}
use Rattle.trace_program.proofs.run.write_trace.Goals as goal

pub loop-event-preserved : goal.loop-event-preserved
loop-event-preserved g c =
    let events = c.args.events.now in
    let n = c.loop-event.event-index in
    let left = left_more events n c.event-item.result c.loop-event-test.true c.event-item.is in
    record {
      text = traces_more (count_of c.args.modulus) c.args.network.now c.args.script.now events c.loop-event.network c.step.new.network
          c.loop-event.number c.loop-event.rest.now c.split_first_line.result.1.now _ c.event-item.result (drop n events)
          (drop (n + 1) events) (g.W.Write.contents c.args.output.now)
          (g.W.Write.contents c.loop-event.output) (g.W.Write.contents c.write_event.new.output)
          c.loop-event.invariant.text left c.split_first_line.ensures.others c.in_ok-trace.ensures.actors
          (lines_are (count_of c.args.modulus) c.loop-event.number c.loop-event.network c.event-item.result c.loop-event.rest.now
          c.split_first_line.result.0.now c.in_ok-trace.trace.refusal c.in_ok-trace.trace.fate c.in_ok-trace.trace.crossings.items
          c.in_ok-trace.trace.made.items c.in_ok-trace.trace.notes.items c.split_first_line.ensures.line c.in_ok-trace.ensures.refusal
          c.in_ok-trace.ensures.fate c.in_ok-trace.ensures.crossings c.in_ok-trace.ensures.made c.in_ok-trace.ensures.notes)
          c.in_ok-write_event.ensures.text;
      tally = tally_more c.loop-event.network c.step.new.network c.loop-event.number c.event-item.result (drop n events)
          (drop (n + 1) events) c.in_ok-trace.trace.refusal c.loop-event.tally c.count-tally.result _
          c.loop-event.invariant.tally left c.in_ok-trace.ensures.actors c.in_ok-trace.ensures.refusal c.count-tally.ensures;
      number = ap (λ k. k + 1) c.loop-event.invariant.number;
      below = counted_below c.in_ok-trace.trace.refusal c.loop-event.number c.loop-event.tally c.count-tally.result
          c.loop-event.invariant.below c.count-tally.ensures;
      seen = c.in_ok-trace.ensures.seen;
    }
