-- SPDX-License-Identifier: MIT OR Apache-2.0
use Rattle.std.proofs.Common.{◌≡◌, ◌≤◌, ◌++◌, drop, length, vec_capacity, vec_len}
use Rattle.connection_notes.specs.Sights.{sights_of}
use Rattle.connection_notes.proofs.sight.sights.Given as goal

-- what was seen, with what is left to see, is all of it, for which there is room
abbrev pub invariant-loop-place : goal.invariant-loop-place
invariant-loop-place l = record {
  seen : l.sights.items ++ sights_of (drop l.place l.controller.entries) ≡ sights_of l.controller.entries;
  within : vec_len l.sights ≤ l.place;
  room : vec_capacity l.sights ≡ length l.controller.entries;
}
