-- SPDX-License-Identifier: MIT OR Apache-2.0
use Rattle.std.proofs.Common.{◌≡◌, ◌≤◌, ◌++◌, drop, length, vec_capacity, vec_len}
use Rattle.connection_notes.specs.Sights.{sights_of}
use Rattle.world_trace.proofs.sight.sights.Given as goal

-- the sights so far and those that are left are all sights, and there is room for them
abbrev pub invariant-loop-place : goal.invariant-loop-place
invariant-loop-place l = record {
  seen : l.sights.items ++ sights_of (drop l.place l.network.controller.entries) ≡ sights_of l.network.controller.entries;
  within : vec_len l.sights ≤ l.place;
  room : vec_capacity l.sights ≡ length l.network.controller.entries;
}
