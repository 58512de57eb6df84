-- SPDX-License-Identifier: MIT OR Apache-2.0
-- Messages of a station that can be written.
use Rattle.std.specs.Prelude.{◌≡◌, None}
use Rattle.std.specs.List.{AllByRecursion}
use Rattle.link_model.specs.BaseState.{BaseState}
use Rattle.rsl_codec.specs.declared.rsl.Rsl.{Rsl}
use Rattle.rsl_codec.specs.RslText.{rsl_write_fault}

abbrev pub IsWritten : Rsl → Type 0
IsWritten message = rsl_write_fault message ≡ None

-- all messages that a station made and hasn't given out yet can be written
abbrev pub HasWritten : BaseState → Type 0
HasWritten base = AllByRecursion IsWritten base.messages
