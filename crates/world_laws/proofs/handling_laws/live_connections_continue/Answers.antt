-- SPDX-License-Identifier: MIT OR Apache-2.0
use Rattle.world_laws.proofs.Handling.Continuing.{live_connections_continue_new}
use Rattle.world_laws.proofs.handling_laws.live_connections_continue.Goals as goal

pub returns : goal.returns
returns c = live_connections_continue_new
