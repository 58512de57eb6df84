-- SPDX-License-Identifier: MIT OR Apache-2.0
use Rattle.world_laws.proofs.LineUp.Changing.{alive_change}
use Rattle.world_laws.proofs.line_up_laws.changes_keep_line_up.Goals as goal

pub returns : goal.returns
returns c m before after step alive = alive_change step alive
