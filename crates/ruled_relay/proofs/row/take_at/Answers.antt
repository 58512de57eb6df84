-- SPDX-License-Identifier: MIT OR Apache-2.0
use Rattle.std.proofs.Common.{arith}
use Rattle.atomic_table.proofs.Lists.{at_index}
use Rattle.ruled_relay.proofs.Places.{took_at, spent_at}
use Rattle.ruled_relay.proofs.row.take_at.Goals as goal

pub take-requires : goal.take-requires
take-requires g c = c.requires.takes _ _ (at_index c.args.ends.now.items c.from.result c.index_mut-end.result.now (omega arith) c.index_mut-end.ensures.value)

pub returns-in_err-what : goal.returns-in_err-what
returns-in_err-what g c =
    spent_at c.args.ends.now.items c.from.result c.args.source c.index_mut-end.result.now c.take.new.self c.from_residual.result c.from_residual.ensures c.from.ensures
    (at_index c.args.ends.now.items c.from.result c.index_mut-end.result.now (omega arith) c.index_mut-end.ensures.value) c.in_err-what.ensures

pub returns : goal.returns
returns g c =
    took_at c.args.ends.now.items c.from.result c.args.source c.index_mut-end.result.now c.take.new.self c.in_ok-what.what c.from.ensures
    (at_index c.args.ends.now.items c.from.result c.index_mut-end.result.now (omega arith) c.index_mut-end.ensures.value) c.in_ok-what.ensures
