-- SPDX-License-Identifier: MIT OR Apache-2.0
use Rattle.std.proofs.Common.{◌≡◌, true, refl, arith}
use Rattle.atomic_table.proofs.Lists.{at_index}
use Rattle.ruled_relay.proofs.Places.{has_here}
use Rattle.ruled_relay.proofs.row.join_at.Goals as goal

pub join-requires-clause-queue : goal.join-requires-clause-queue
join-requires-clause-queue c =
    (has_here c.args.ends.now.items c.args.at c.index_mut-end.result.now (λ e. (c.args.other.queue ≡ e.queue) × (e.seen.takes ≡ true))
    (at_index c.args.ends.now.items c.args.at c.index_mut-end.result.now (omega arith) c.index_mut-end.ensures.value) c.requires.queue).0

pub join-requires-clause-takes : goal.join-requires-clause-takes
join-requires-clause-takes c =
    (has_here c.args.ends.now.items c.args.at c.index_mut-end.result.now (λ e. (c.args.other.queue ≡ e.queue) × (e.seen.takes ≡ true))
    (at_index c.args.ends.now.items c.args.at c.index_mut-end.result.now (omega arith) c.index_mut-end.ensures.value) c.requires.queue).1

pub returns : goal.returns
returns c =
    (c.index_mut-end.result.now, c.join.new.self, at_index c.args.ends.now.items c.args.at c.index_mut-end.result.now (omega arith) c.index_mut-end.ensures.value, refl, c.join.ensures)
