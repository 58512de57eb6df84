-- SPDX-License-Identifier: MIT OR Apache-2.0
use Rattle.std.proofs.Common.{◌≡◌, ℕ, List, ◌<◌, length}
use Rattle.std.specs.Io.KnownBytes.{Consumes}
use Rattle.program_io.proofs.input.read_within.Given as goal

-- The sink took all that was read, and each turn read once.
abbrev pub invariant-loop : goal.invariant-loop
invariant-loop g l =
    (0 < length l.block)
    × ((octets : List ℕ) × Consumes (g.R.Read.remaining l.initial.input) (g.R.Read.remaining l.input) octets × g.S.Sink.takes l.initial.sink octets l.sink)
    × (l.reads.made ≡ l.counter)
