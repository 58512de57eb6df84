-- SPDX-License-Identifier: MIT OR Apache-2.0
use Rattle.world.proofs.Order.{IsInOrder-reached}
use Rattle.world.proofs.laws.keeps_order.Goals as goal

pub returns : goal.returns
returns c begin events begins of = IsInOrder-reached begin events begins of
