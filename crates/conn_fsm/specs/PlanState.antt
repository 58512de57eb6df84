-- SPDX-License-Identifier: MIT OR Apache-2.0
-- The planned step of a connection for an expiry or a broken link.
use Rattle.std.specs.Prelude.{List, Option}
use Rattle.conn_messages.specs.declared.out.Out.{Out}
use Rattle.conn_rules.specs.declared.input.Input.{Input}
use Rattle.conn_rules.specs.declared.state.State.{State}
use Rattle.conn_rules.specs.Connection.{Connection}

pub record PlanState : Type 0 where
  -- the frames that are put
  pub outs : List Out
  -- the state in which the connection ends; `None` if no row fits
  pub last : Option State
  -- the connection and the input for which the step is planned
  pub was : Connection
  pub input : Input
