-- SPDX-License-Identifier: MIT OR Apache-2.0
use Rattle.world_laws.proofs.LineUp.Breaking.{alive_break}
use Rattle.world_laws.proofs.line_up_laws.breaks_keep_line_up.Goals as goal

pub returns : goal.returns
returns c m before after step alive = alive_break step alive
