-- SPDX-License-Identifier: MIT OR Apache-2.0
use Rattle.std.proofs.Common.{◌≡◌}
use Rattle.connection_notes.specs.Sights.{sights_of}
use Rattle.relay_tests.proofs.traces.put_in_turn.Given as goal

-- the connections are those that were seen last
abbrev pub invariant-loop-event : goal.invariant-loop-event
invariant-loop-event l = l.tracing ≡ sights_of l.network.controller.entries
