-- SPDX-License-Identifier: MIT OR Apache-2.0
-- The state of a switch end: the modulus of the numbers, and the connections in order.
use Rattle.std.specs.Prelude.{ℕ, List}
use Rattle.msc_end.specs.declared.connection.Connection.{Connection}

pub record SwitchState : Type 0 where
  pub modulus : ℕ
  pub connections : List Connection
