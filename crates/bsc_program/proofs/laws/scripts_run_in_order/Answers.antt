-- SPDX-License-Identifier: MIT OR Apache-2.0
use Rattle.bsc_program.proofs.ScriptOrder.{scripts_run_in_order}
use Rattle.bsc_program.proofs.laws.scripts_run_in_order.Goals as goal

pub returns : goal.returns
returns c = scripts_run_in_order
