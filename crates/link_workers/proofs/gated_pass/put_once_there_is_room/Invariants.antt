-- SPDX-License-Identifier: MIT OR Apache-2.0
use Rattle.std.proofs.Common.{◌≡◌}
use Rattle.link_workers.proofs.gated_pass.put_once_there_is_room.Given as goal

-- Nothing was put so far.
abbrev pub invariant-loop : goal.invariant-loop
invariant-loop g l =
    (goal.iterator-loop g).can_next l.iterator' × (goal.iterator-loop g).is_finite l.iterator'
    × (l.pass ≡ l.initial.pass) × (l.item.source ≡ l.initial.pass.source) × (l.item.what ≡ l.fn.what)
