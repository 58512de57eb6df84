-- SPDX-License-Identifier: MIT OR Apache-2.0
-- The end of a connection is final, from the effect of every row.
use Rattle.conn_rules.proofs.Prelude.{Option, Channel, Input, Connection, OfRow, IsOpen, IsFinal}
use Rattle.conn_rules.specs.Steps.{Row}
use Rattle.conn_rules.specs.Table.{row_of}
use Rattle.conn_rules.proofs.Downlink.{of_row_so}
use Rattle.conn_rules.proofs.DownlinkMessages.{handed-parting, relayed-parting}
use Rattle.conn_rules.proofs.DownlinkSteps.{Does, only_releases_open}
use Rattle.conn_rules.proofs.DownlinkSteps.Does.{ends, passes, moves}
use Rattle.conn_rules.proofs.DownlinkTable.{Does-row}

-- a row between two states that are open
is_final_open : (s : Connection) (r : Row) → IsOpen s.state → IsOpen r.next.state → IsFinal s r
is_final_open s r was_open is_open = record {
  remains_closed = λ shut _. shut was_open;
  relays = λ shut sapi. absurd (shut is_open);
  hands = λ shut sapi. absurd (shut is_open);
  cleared = only_releases_open s.state r.outs was_open;
}

is_final_does : (s : Connection) (input : Input) (r : Row) → Does s.state s input r → IsFinal s r
is_final_does s input r (ends shut parting releases) = record {
  remains_closed = λ _. shut;
  relays = λ _ sapi. relayed-parting sapi r.outs parting;
  hands = λ _ sapi. handed-parting sapi r.outs parting;
  cleared = releases;
}
is_final_does s input r (passes was_open is_open quiet same nothing) = is_final_open s r was_open is_open
is_final_does s input r (moves was_open is_open keeps silent) = is_final_open s r was_open is_open

pub IsFinal-row : (s : Connection) (input : Input) (offer : Option Channel) → OfRow (IsFinal s) (row_of s input offer)
IsFinal-row s input offer = of_row_so (Does s.state s input) (IsFinal s) (is_final_does s input) (row_of s input offer) (Does-row s input offer)
