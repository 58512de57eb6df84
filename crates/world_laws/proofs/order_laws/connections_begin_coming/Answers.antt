-- SPDX-License-Identifier: MIT OR Apache-2.0
use Rattle.world_laws.proofs.Order.Coming.{connections_begin_coming_new}
use Rattle.world_laws.proofs.order_laws.connections_begin_coming.Goals as goal

pub returns : goal.returns
returns c = connections_begin_coming_new
