-- SPDX-License-Identifier: MIT OR Apache-2.0
use Rattle.std.proofs.Common.{◌≡◌, ◌++◌}
use Rattle.std.specs.List.{AllByRecursion}
use Rattle.std.specs.Vec.Iter.{into_iter_items}
use Rattle.world_ends.specs.SwitchWritten.{IsWritten}
use Rattle.world_ends.proofs.switch.Switch.make_all.Given as goal

abbrev pub invariant-loop-message : goal.invariant-loop-message
invariant-loop-message l =
    (goal.iterator-loop-message).can_next l.message-iterator × (goal.iterator-loop-message).is_finite l.message-iterator
    × (l.self.made ++ into_iter_items l.message-iterator ≡ l.fn.self.made ++ l.fn.messages.items) × (l.self.switch ≡ l.fn.self.switch)
    × AllByRecursion IsWritten (into_iter_items l.message-iterator)
