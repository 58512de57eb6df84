-- SPDX-License-Identifier: MIT OR Apache-2.0
-- The switch of a world in plain lists: its end of the interface, and the messages that it made and
-- hasn't given out yet.
use Rattle.std.specs.Prelude.{List}
use Rattle.bssmap_codec.specs.declared.sccp.Sccp.{Sccp}
use Rattle.msc_end.specs.SwitchState.{SwitchState}

pub record SwitchSideState : Type 0 where
  pub switch : SwitchState
  pub made : List Sccp
