-- SPDX-License-Identifier: MIT OR Apache-2.0
use Rattle.std.proofs.Common.{◌≡◌, take}
use Rattle.conn_messages.specs.Out.{outs_of}
use Rattle.conn_messages.proofs.outputs.Outputs.made.Given as goal

-- The frames of the messages before this one are made.
abbrev pub invariant-loop-message : goal.invariant-loop-message
invariant-loop-message l = l.made.outs ≡ outs_of l.number (take l.message-index l.message-items)
