-- SPDX-License-Identifier: MIT OR Apache-2.0
use Rattle.world_laws.proofs.Access.Begins.{connections_begin_for_their_mobile_new}
use Rattle.world_laws.proofs.access_laws.connections_begin_for_their_mobile.Goals as goal

pub returns : goal.returns
returns c = connections_begin_for_their_mobile_new
