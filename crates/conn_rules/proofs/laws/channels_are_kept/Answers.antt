-- SPDX-License-Identifier: MIT OR Apache-2.0
use Rattle.conn_rules.proofs.Channels.{keeps_channels}
use Rattle.conn_rules.proofs.laws.channels_are_kept.Goals as goal

pub returns : goal.returns
returns c = keeps_channels
