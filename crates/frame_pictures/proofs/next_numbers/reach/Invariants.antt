-- SPDX-License-Identifier: MIT OR Apache-2.0
use Rattle.std.proofs.Common.{◌≡◌, ◌+◌, ◌-◌, ℕ, length}
use Rattle.frame_pictures.specs.NextNumbers.{number_at}
use Rattle.frame_pictures.proofs.next_numbers.reach.Given as goal

abbrev pub invariant-loop-numbers : goal.invariant-loop-numbers
invariant-loop-numbers l = (other : ℕ) → number_at l.numbers.items other ≡ number_at l.fn.numbers.items other

abbrev pub decreases-loop-numbers : goal.decreases-loop-numbers
decreases-loop-numbers l = l.way + 1 - length l.numbers.items
