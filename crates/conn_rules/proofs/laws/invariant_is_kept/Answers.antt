-- SPDX-License-Identifier: MIT OR Apache-2.0
use Rattle.conn_rules.proofs.ValidSteps.{IsValid-new}
use Rattle.conn_rules.proofs.ValidTable.{IsValid-row}
use Rattle.conn_rules.proofs.laws.invariant_is_kept.Goals as goal

pub returns-clause-at_first : goal.returns-clause-at_first
returns-clause-at_first c number channel request delay = IsValid-new number channel request delay

pub returns-clause-by_rows : goal.returns-clause-by_rows
returns-clause-by_rows c s input offer valid carried = IsValid-row s input offer valid carried
