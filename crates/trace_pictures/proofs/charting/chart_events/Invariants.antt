-- SPDX-License-Identifier: MIT OR Apache-2.0
use Rattle.std.proofs.Common.{◌≡◌}
use Rattle.program_base.specs.WholeScript.{line_count}
use Rattle.connection_notes.specs.Sights.{sights_of}
use Rattle.trace_pictures.specs.Numbered.{line_numbers}
use Rattle.trace_pictures.proofs.Numbering.{numbers_of}
use Rattle.trace_pictures.proofs.charting.chart_events.Given as goal

-- the last sights are those of the network, and each event so far has the number of its line
abbrev pub invariant-loop-event : goal.invariant-loop-event
invariant-loop-event l = record {
  seen : l.tracing ≡ sights_of l.network.controller.entries;
  count : l.number ≡ line_count l.event-index;
  numbers : numbers_of l.charted.items ≡ line_numbers l.event-index;
}
