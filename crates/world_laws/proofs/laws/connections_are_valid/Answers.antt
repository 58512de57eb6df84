-- SPDX-License-Identifier: MIT OR Apache-2.0
use Rattle.world_laws.proofs.ValidConnections.{connections_are_valid_new}
use Rattle.world_laws.proofs.laws.connections_are_valid.Goals as goal

pub returns : goal.returns
returns c = connections_are_valid_new
