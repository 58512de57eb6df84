-- SPDX-License-Identifier: MIT OR Apache-2.0
use Rattle.std.proofs.Common.{◌≡◌, ◌+◌, length, drop, vec_len}
use Rattle.std.specs.Vec.Iter.{into_iter_items, into_iter_len}
use Rattle.ruled_relay.proofs.Joining.{Progress}
use Rattle.ruled_relay.proofs.inbox.Inbox.finish.Given as goal

abbrev pub invariant-loop-pass : goal.invariant-loop-pass
invariant-loop-pass l =
    (goal.iterator-loop-pass).can_next l.pass-iterator × (goal.iterator-loop-pass).is_finite l.pass-iterator
    × (into_iter_items l.pass-iterator ≡ drop l.at l.fn.passes.items) × (l.at + into_iter_len l.pass-iterator ≡ vec_len l.fn.passes)
    × (length l.ends.items ≡ length l.fn.desk) × Progress l.fn.desk l.fn.passes.items l.at l.ends.items
