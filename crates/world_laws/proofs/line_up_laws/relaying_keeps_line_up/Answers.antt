-- SPDX-License-Identifier: MIT OR Apache-2.0
use Rattle.world_laws.proofs.LineUp.Relaying.{alive_relay}
use Rattle.world_laws.proofs.line_up_laws.relaying_keeps_line_up.Goals as goal

pub returns : goal.returns
returns c m before after step alive = alive_relay step alive
