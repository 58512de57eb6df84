-- SPDX-License-Identifier: MIT OR Apache-2.0
use Rattle.std.proofs.Common.{◌≡◌, drop}
use Rattle.rerun.specs.Concerning.{has_channel}
use Rattle.rerun.proofs.concerning.has_channel.Given as goal

abbrev pub invariant-loop-place : goal.invariant-loop-place
invariant-loop-place l = has_channel l.number l.at (drop l.place l.controller.entries) ≡ has_channel l.number l.at l.controller.entries
