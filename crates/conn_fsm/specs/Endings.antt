-- SPDX-License-Identifier: MIT OR Apache-2.0
-- The planned effect of an expiry or a broken link on a connection.
use Rattle.std.specs.Prelude.{Option, Result, IfOk}
use Rattle.conn_rules.specs.Connection.{Connection}
use Rattle.conn_rules.specs.Steps.{Row}
use Rattle.octets.specs.declared.memory.Memory.{Memory}
use Rattle.conn_fsm.specs.declared.planned.Ending.{Ending}
use Rattle.conn_fsm.specs.Doing.{Plans}

-- if the result is `Ok`, it has the frames of the row that fits and the state in which the row ends
-- the connection
abbrev pub PlansOnOk : Result Ending Memory → Option Row → Connection → Type 0
PlansOnOk result r s = IfOk result (λ ending. Plans ending.outputs.outs ending.last r s)
