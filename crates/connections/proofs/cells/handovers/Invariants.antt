-- SPDX-License-Identifier: MIT OR Apache-2.0
use Rattle.std.proofs.Common.{◌≡◌, length}
use Rattle.connections.specs.Entries.{AreOfFirst}
use Rattle.connections.proofs.cells.handovers.Given as goal

abbrev pub invariant-loop-place : goal.invariant-loop-place
invariant-loop-place l = record { count : length l.handovers.items ≡ l.place; each : AreOfFirst l.settings l.handovers.items }
