-- SPDX-License-Identifier: MIT OR Apache-2.0
use Rattle.world_laws.proofs.Order.OctetMakers.{stations_give_octets_new}
use Rattle.world_laws.proofs.order_laws.stations_give_octets.Goals as goal

pub returns : goal.returns
returns c = stations_give_octets_new
