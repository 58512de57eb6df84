-- SPDX-License-Identifier: MIT OR Apache-2.0
use Rattle.world_laws.proofs.Owners.Alone.{channels_are_mobiles_new, connections_are_alone_new}
use Rattle.world_laws.proofs.owner_laws.connections_are_alone.Goals as goal

pub returns-clause-channels : goal.returns-clause-channels
returns-clause-channels c = channels_are_mobiles_new

pub returns-clause-mobiles : goal.returns-clause-mobiles
returns-clause-mobiles c = connections_are_alone_new
