-- SPDX-License-Identifier: MIT OR Apache-2.0
use Rattle.std.proofs.Common.{◌≡◌, replicate}
use Rattle.controller_model.specs.Controller.{free_channels}
use Rattle.controller_parts.proofs.channels.Channels.new.Given as goal

abbrev pub invariant-loop : goal.invariant-loop
invariant-loop l = l.made.items ≡ replicate l.counter free_channels
