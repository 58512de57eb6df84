-- SPDX-License-Identifier: MIT OR Apache-2.0
use Rattle.std.specs.Io.KnownBytes.{Keeps}
use Rattle.link_workers.proofs.Gathering.{GathersSome}
use Rattle.link_workers.proofs.writer.gather.Given as goal

abbrev pub invariant-loop : goal.invariant-loop
invariant-loop g l =
    (goal.iterator-loop g).can_next l.iterator' × (goal.iterator-loop g).is_finite l.iterator'
    × GathersSome l.initial.taker l.taker l.initial.text.items l.text.items × Keeps (g.O.Write.contents l.initial.writer) (g.O.Write.contents l.writer)
