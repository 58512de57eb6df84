-- SPDX-License-Identifier: MIT OR Apache-2.0
use Rattle.link_workers.proofs.Gathering.{WritesSome}
use Rattle.link_workers.proofs.writer.write_lines.Given as goal

abbrev pub invariant-loop : goal.invariant-loop
invariant-loop g l =
    (goal.iterator-loop g).can_next l.iterator' × (goal.iterator-loop g).is_finite l.iterator'
    × WritesSome (g.O.Write.contents l.initial.writer) (g.O.Write.contents l.writer) l.initial.taker l.taker
