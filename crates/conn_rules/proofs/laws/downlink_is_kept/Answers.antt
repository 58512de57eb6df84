-- SPDX-License-Identifier: MIT OR Apache-2.0
use Rattle.conn_rules.proofs.Downlink.{KeepsDownlink-row}
use Rattle.conn_rules.proofs.laws.downlink_is_kept.Goals as goal

pub returns : goal.returns
returns c sapi s input offer valid = KeepsDownlink-row sapi s input offer valid
