-- SPDX-License-Identifier: MIT OR Apache-2.0
use Rattle.controller_model.proofs.Numbers.{keeps_number}
use Rattle.controller_model.proofs.laws.row_keeps_number.Goals as goal

pub returns : goal.returns
returns c = keeps_number
