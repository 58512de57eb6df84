-- SPDX-License-Identifier: MIT OR Apache-2.0
use Rattle.std.proofs.Common.{◌≡◌, ◌+◌, ◌<◌, drop}
use Rattle.dtap_codec.specs.Number.{count_of}
use Rattle.trace_program.specs.Traced.{no_tally, tally_of}
use Rattle.connection_notes.specs.Sights.{sights_of}
use Rattle.trace_program.proofs.Tracing.{Traces}
use Rattle.trace_program.proofs.run.write_trace.Given as goal

abbrev pub invariant-loop-event : goal.invariant-loop-event
invariant-loop-event g l = record {
  text : Traces (count_of l.fn.modulus) l.fn.network l.fn.script l.fn.events l.network l.number l.rest (drop l.event-index l.events)
      (g.W.Write.contents l.fn.output) (g.W.Write.contents l.output);
  tally : tally_of l.network l.number (drop l.event-index l.events) l.tally ≡ tally_of l.fn.network 1 l.fn.events
      no_tally;
  number : l.number ≡ l.event-index + 1;
  below : l.tally.not_taken < l.number;
  seen : l.tracing ≡ sights_of l.network.controller.entries;
}
