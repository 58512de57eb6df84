-- SPDX-License-Identifier: MIT OR Apache-2.0
-- The message that a `Said` contains.
use Rattle.std.specs.Prelude.{ℕ, List, []}
use Rattle.run_judge.specs.declared.said.Said.{Said}
use Rattle.run_judge.specs.declared.said.Said.TheVariants as says

-- The message; empty if there is none.
abbrev pub message_in : Said → List ℕ
message_in (says.Establishes at message) = message
message_in (says.Brings at sapi message) = message
message_in (says.Hands at sapi message) = message
message_in (says.Requests source message) = message
message_in (says.Passes destination sapi message) = message
message_in (says.Transfers destination sapi message) = message
message_in _ = []
