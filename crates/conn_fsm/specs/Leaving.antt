-- SPDX-License-Identifier: MIT OR Apache-2.0
-- Old channels that leave: how many, the connection afterwards, and the messages that are put.
use Rattle.std.specs.Prelude.{ℕ, zero, suc, if◌then◌else◌, List, [], ◌∷◌, ◌++◌}
use Rattle.std.specs.Prelude.{drop}
use Rattle.conn_messages.specs.declared.channel.Channel.{Channel}
use Rattle.conn_messages.specs.declared.message.Message.{Message}
use Rattle.conn_rules.specs.declared.state.Drain.{Drain}
use Rattle.conn_rules.specs.Connection.{Connection, first_channel}
use Rattle.conn_rules.specs.Steps.{tenure_outs}
use Rattle.hold_queue.specs.ChainState.{first_cleared}

-- how many old channels leave: the oldest channels as long as they are done
abbrev pub leaving : List Drain → ℕ
leaving [] = 0
leaving (d ∷ ds) = if d.is_done then suc (leaving ds) else 0

-- the connection once the oldest old channel left and the messages of the next tenure were relayed
abbrev pub oldest_left : Connection → Connection
oldest_left s = record s {
  draining = drop 1 s.draining;
  up = record s.up { tenures = first_cleared (drop 1 s.up.tenures) };
  drained = 0;
}

-- the connection once this many old channels left
abbrev pub left : ℕ → Connection → Connection
left zero s = s
left (suc n) s = oldest_left (left n s)

-- the channel of the tenure at this place
abbrev pub channel_of : ℕ → Connection → Channel
channel_of tenure s = first_channel (drop tenure s.draining) s.serving

-- the messages to the switch that relay the messages held in this tenure
abbrev pub outs_of_tenure : ℕ → ℕ → Connection → List Message
outs_of_tenure reference tenure s =
    tenure_outs reference (channel_of tenure s) (drop tenure s.up.tenures)

-- the messages to the switch that relay the messages held in each tenure that becomes the first
-- while this many old channels leave
abbrev pub left_outs : ℕ → ℕ → Connection → List Message
left_outs reference zero s = []
left_outs reference (suc n) s = left_outs reference n s ++ outs_of_tenure reference (suc n) s
