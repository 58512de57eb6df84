-- SPDX-License-Identifier: MIT OR Apache-2.0
use Rattle.world_laws.proofs.OwnRowLaw.{row_keeps_line_up_new}
use Rattle.world_laws.proofs.laws.rows_keep_line_ups.Goals as goal

pub returns : goal.returns
returns c = row_keeps_line_up_new
