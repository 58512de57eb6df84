-- SPDX-License-Identifier: MIT OR Apache-2.0
use Rattle.std.proofs.Common.{arith}
use Rattle.atomic_table.proofs.Lists.{at_index}
use Rattle.ruled_relay.specs.Inbox.{PassView}
use Rattle.ruled_relay.proofs.Places.{map_set}
use Rattle.worker_tests.proofs.inbox.put_at.Goals as goal

pub returns-clause-queues : goal.returns-clause-queues
returns-clause-queues g c =
    map_set (λ (p : PassView). p.queue) c.args.passes.now.items c.args.at c.index_mut.result.now c.put.new.self
    (at_index c.args.passes.now.items c.args.at c.index_mut.result.now (omega arith) c.index_mut.ensures.value) c.put.ensures.same.0
