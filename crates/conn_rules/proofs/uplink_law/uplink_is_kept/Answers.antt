-- SPDX-License-Identifier: MIT OR Apache-2.0
use Rattle.conn_rules.proofs.UplinkTable.{row_keeps}
use Rattle.conn_rules.proofs.uplink_law.uplink_is_kept.Goals as goal

pub returns : goal.returns
returns c s input offer sapi future valid apart ends = row_keeps s input offer sapi future valid apart ends
