-- SPDX-License-Identifier: MIT OR Apache-2.0
use Rattle.std.proofs.Common.{◌≡◌, length}
use Rattle.bssmap_codec.specs.SccpReading.{data_in}
use Rattle.bssmap_codec.proofs.pointers.data.Given as goal

abbrev pub invariant-loop-found : goal.invariant-loop-found
invariant-loop-found l = data_in l.rest ≡ data_in l.options

abbrev pub decreases-loop-found : goal.decreases-loop-found
decreases-loop-found l = length l.rest
