-- SPDX-License-Identifier: MIT OR Apache-2.0
use Rattle.world_laws.proofs.Order.Fairly.{ArriveInOctets-new}
use Rattle.world_laws.proofs.order_laws.octets_arrive.Goals as goal

pub returns : goal.returns
returns c = ArriveInOctets-new
