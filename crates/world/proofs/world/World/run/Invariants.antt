-- SPDX-License-Identifier: MIT OR Apache-2.0
use Rattle.std.proofs.Common.{◌≡◌, false, drop}
use Rattle.world.specs.World.{after_all}
use Rattle.world.proofs.world.World.run.Given as goal

-- the events that are left lead to the same world as all events from the first world
abbrev pub invariant-loop-event : goal.invariant-loop-event
invariant-loop-event l = record { carries_on : after_all l.self (drop l.event-index l.events) ≡ after_all l.fn.self l.events; not_failed : l.fn.self.failed ≡ false }
