-- SPDX-License-Identifier: MIT OR Apache-2.0
use Rattle.conn_messages.proofs.Readings.{message_again}
use Rattle.conn_messages.proofs.laws.message_is_read.Goals as goal

pub returns : goal.returns
returns c = message_again
