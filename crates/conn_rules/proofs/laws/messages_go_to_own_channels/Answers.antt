-- SPDX-License-Identifier: MIT OR Apache-2.0
use Rattle.conn_rules.proofs.PutRows.{puts_on_own}
use Rattle.conn_rules.proofs.laws.messages_go_to_own_channels.Goals as goal

pub returns : goal.returns
returns c s input offer valid all = puts_on_own s input offer valid all
