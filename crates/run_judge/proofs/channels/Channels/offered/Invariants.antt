-- SPDX-License-Identifier: MIT OR Apache-2.0
use Rattle.std.proofs.Common.{◌≡◌, ◌++◌, drop}
use Rattle.run_judge.specs.Channels.{offered_from}
use Rattle.run_judge.proofs.channels.Channels.offered.Given as goal

abbrev pub invariant-loop-station : goal.invariant-loop-station
invariant-loop-station l =
    l.found.items ++ offered_from l.number l.reference l.station (drop l.station l.views-items)
    ≡ offered_from l.number l.reference 0 l.views-items
