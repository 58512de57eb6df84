-- SPDX-License-Identifier: MIT OR Apache-2.0
use Rattle.std.proofs.Common.{◌≡◌, ◌++◌, drop}
use Rattle.trace_pictures.specs.FramesSent.{frames_sent}
use Rattle.connection_notes.specs.Sights.{sights_of}
use Rattle.trace_pictures.proofs.captured_events.frames_sent.Given as goal

-- the frames so far, with those of the events that are left, are those of all
abbrev pub invariant-loop-event : goal.invariant-loop-event
invariant-loop-event l = record {
  sent : l.frames.items ++ frames_sent l.network l.ms (drop l.event-index l.events) ≡ frames_sent l.fn.network 0 l.fn.events;
  seen : l.tracing ≡ sights_of l.network.controller.entries;
}
