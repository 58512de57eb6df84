-- SPDX-License-Identifier: MIT OR Apache-2.0
use Rattle.std.proofs.Common.{◌≡◌, drop}
use Rattle.controller_parts.specs.Following.{channels_by}
use Rattle.controller_parts.proofs.channels.Channels.follow_each.Given as goal

-- what is left makes the same of them
abbrev pub invariant-loop-out : goal.invariant-loop-out
invariant-loop-out l = channels_by l.number l.self (drop l.out-index l.outs) ≡ channels_by l.number l.initial.self l.outs
