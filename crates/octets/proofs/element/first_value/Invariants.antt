-- SPDX-License-Identifier: MIT OR Apache-2.0
use Rattle.std.proofs.Common.{◌≡◌, length}
use Rattle.octets.specs.Walk.{walk, first_of}
use Rattle.octets.proofs.element.first_value.Given as goal

abbrev pub invariant-loop-found : goal.invariant-loop-found
invariant-loop-found l = first_of l.id (walk l.table l.rest).elements ≡ first_of l.id (walk l.table l.octets).elements

abbrev pub decreases-loop-found : goal.decreases-loop-found
decreases-loop-found l = length l.rest
