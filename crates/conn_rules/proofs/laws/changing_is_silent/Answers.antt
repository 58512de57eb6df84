-- SPDX-License-Identifier: MIT OR Apache-2.0
use Rattle.conn_rules.proofs.Downlink.{IsSilent-row}
use Rattle.conn_rules.proofs.laws.changing_is_silent.Goals as goal

pub returns : goal.returns
returns c s input offer = IsSilent-row s input offer
