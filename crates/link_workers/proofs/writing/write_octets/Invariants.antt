-- SPDX-License-Identifier: MIT OR Apache-2.0
use Rattle.link_workers.proofs.Gathering.{PutsSome}
use Rattle.link_workers.proofs.writing.write_octets.Given as goal

-- All but the rest was written.
abbrev pub invariant-loop : goal.invariant-loop
invariant-loop g l = PutsSome l.octets l.rest (g.O.Write.contents l.initial.writer) (g.O.Write.contents l.writer)
