-- SPDX-License-Identifier: MIT OR Apache-2.0
use Rattle.std.proofs.Common.{◌≡◌, ◌≤◌, ◌-◌}
use Rattle.ruled_relay.specs.Among.{HasNoneFrom}
use Rattle.ruled_relay.proofs.row.take_among_raised.Given as goal

-- none of the sources that were passed may have more
abbrev pub invariant-loop-source : goal.invariant-loop-source
invariant-loop-source g l = (l.ends.items ≡ l.fn.ends.items) × HasNoneFrom l.fn.from l.next l.more.words.items

abbrev pub decreases-loop-source : goal.decreases-loop-source
decreases-loop-source g l = l.to - l.next
