-- SPDX-License-Identifier: MIT OR Apache-2.0
use Rattle.std.proofs.Common.{◌<◌, length, arith}
use Rattle.std.proofs.lemmas.List.{length-set}
use Rattle.hold_queue.specs.ChainState.{tenures_count}
use Rattle.hold_queue.proofs.Chains.{count_put}
use Rattle.hold_queue.proofs.chain.Chain.put.Goals as goal

pub invariant_of-self : goal.invariant_of-self
invariant_of-self c =
    let room : tenures_count c.self.inside.tenures.items < c.self.inside.limit = grind arith in
    let within : c.args.tenure < length c.self.inside.tenures.items = rw (← c.self.view_is) at c.requires in
    rw length-set (omega (arith, c.self.invariant, room, count_put c.self.inside.tenures.items _ c.index_mut.result.now c.put.new.self (omega (arith, c.self.invariant, within)) c.index_mut.ensures.value c.put.ensures.count))
