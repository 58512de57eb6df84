-- SPDX-License-Identifier: MIT OR Apache-2.0
use Rattle.std.proofs.Common.{arith}
use Rattle.world_laws.specs.Order.OctetEvents.{IsOctetEvent}
use Rattle.world.proofs.Made.{none_left, one_more}
use Rattle.world.proofs.of_octets.are_of_octets.Goals as goal

pub loop-event-init : goal.loop-event-init
loop-event-init c all = all

pub loop-event-preserved : goal.loop-event-preserved
loop-event-preserved c =
    one_more IsOctetEvent c.args.events.now c.loop-event.event-index c.event-item.result c.loop-event-test.true c.event-item.is c.is_of_octets.ensures c.loop-event.invariant

pub returns : goal.returns
returns c = c.loop-event.invariant (none_left IsOctetEvent c.loop-event.event-index c.args.events.now (omega arith))
