-- SPDX-License-Identifier: MIT OR Apache-2.0
use Rattle.world_laws.proofs.Opening.{opening_lines_up_new}
use Rattle.world_laws.proofs.laws.opening_lines_up.Goals as goal

pub returns : goal.returns
returns c = opening_lines_up_new
