-- SPDX-License-Identifier: MIT OR Apache-2.0
use Rattle.std.proofs.Common.{arith, rules}
use Rattle.station_io.proofs.NewQueues.{new_queues}
use Rattle.station_io.proofs.queues.inbox.Goals as goal

pub returns : goal.returns
returns c =
    let made = c.in_ok-desk.ensures in
    new_queues c.in-Ok.sources c.args.count c.in_ok-desk.desk c.in_ok-desk.passes.items (search rules) made.count.0 (omega arith) made.each made.queues
