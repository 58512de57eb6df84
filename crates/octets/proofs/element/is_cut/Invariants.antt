-- SPDX-License-Identifier: MIT OR Apache-2.0
use Rattle.std.proofs.Common.{◌≡◌, length}
use Rattle.octets.specs.Walk.{walk}
use Rattle.octets.proofs.element.is_cut.Given as goal

abbrev pub invariant-loop-found : goal.invariant-loop-found
invariant-loop-found l = (walk l.table l.rest).is_cut ≡ (walk l.table l.octets).is_cut

abbrev pub decreases-loop-found : goal.decreases-loop-found
decreases-loop-found l = length l.rest
