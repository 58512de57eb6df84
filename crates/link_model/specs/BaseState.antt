-- SPDX-License-Identifier: MIT OR Apache-2.0
-- The state of a base station end: the number of the station, the active channels, and the messages
-- that were made and not given out yet.
use Rattle.std.specs.Prelude.{ℕ, List}
use Rattle.rsl_codec.specs.declared.rsl.Rsl.{Rsl}

pub record BaseState : Type 0 where
  pub station : ℕ
  pub active : List ℕ
  pub messages : List Rsl
