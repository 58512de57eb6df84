-- SPDX-License-Identifier: MIT OR Apache-2.0
use Rattle.world_laws.proofs.Order.Beginning.{connections_begin_new}
use Rattle.world_laws.proofs.order_laws.connections_begin.Goals as goal

pub returns : goal.returns
returns c = connections_begin_new
