-- SPDX-License-Identifier: MIT OR Apache-2.0
use Rattle.std.proofs.Common.{drop}
use Rattle.world_laws.specs.Order.OctetEvents.{AreOctetEvents}
use Rattle.world.proofs.of_octets.are_of_octets.Given as goal

-- all are of octets where those that are left are
abbrev pub invariant-loop-event : goal.invariant-loop-event
invariant-loop-event l = AreOctetEvents (drop l.event-index l.events) → AreOctetEvents l.events
