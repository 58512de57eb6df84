-- SPDX-License-Identifier: MIT OR Apache-2.0
use Rattle.world_laws.proofs.OwnInput.{input_keeps_line_up_new}
use Rattle.world_laws.proofs.laws.inputs_keep_line_ups.Goals as goal

pub returns : goal.returns
returns c = input_keeps_line_up_new
