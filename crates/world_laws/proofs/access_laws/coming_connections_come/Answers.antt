-- SPDX-License-Identifier: MIT OR Apache-2.0
use Rattle.world_laws.proofs.Access.CameLaw.{controller_brings_coming_new}
use Rattle.world_laws.proofs.access_laws.coming_connections_come.Goals as goal

pub returns : goal.returns
returns c = controller_brings_coming_new
