-- SPDX-License-Identifier: MIT OR Apache-2.0
use Rattle.conn_rules.proofs.Closing.{IsFinal-row}
use Rattle.conn_rules.proofs.laws.closing_is_final.Goals as goal

pub returns : goal.returns
returns c s input offer = IsFinal-row s input offer
