-- SPDX-License-Identifier: MIT OR Apache-2.0
use Rattle.station_io.specs.Work.{AreNewOutboxes}
use Rattle.station_io.proofs.queues.outboxes.Given as goal

abbrev pub invariant-loop : goal.invariant-loop
invariant-loop l = AreNewOutboxes l.counter l.putters.items l.takers.items
