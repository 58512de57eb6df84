-- SPDX-License-Identifier: MIT OR Apache-2.0
use Rattle.world_laws.proofs.LineUp.Ordering.{alive_opened}
use Rattle.world_laws.proofs.line_up_laws.line_up_begins.Goals as goal

pub returns : goal.returns
returns c m sent link initial items going controls = alive_opened m sent link initial items going controls
