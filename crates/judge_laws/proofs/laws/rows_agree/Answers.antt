-- SPDX-License-Identifier: MIT OR Apache-2.0
use Rattle.judge_laws.proofs.RowTold.{row_agrees}
use Rattle.judge_laws.proofs.laws.rows_agree.Goals as goal

pub returns : goal.returns
returns c = row_agrees
