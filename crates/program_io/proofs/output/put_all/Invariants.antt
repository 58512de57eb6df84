-- SPDX-License-Identifier: MIT OR Apache-2.0
use Rattle.std.proofs.Common.{◌≡◌, ℕ, List, ◌++◌}
use Rattle.std.specs.Io.KnownBytes.{Appends}
use Rattle.program_io.proofs.output.put_all.Given as goal

-- All but the rest was written.
abbrev pub invariant-loop : goal.invariant-loop
invariant-loop g l =
    (written : List ℕ) × (l.octets ≡ written ++ l.rest) × Appends (g.W.Write.contents l.initial.output) (g.W.Write.contents l.output) written
