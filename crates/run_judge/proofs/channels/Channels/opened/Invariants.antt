-- SPDX-License-Identifier: MIT OR Apache-2.0
use Rattle.std.proofs.Common.{◌≡◌, ◌++◌, drop}
use Rattle.run_judge.specs.Channels.{is_opened_by, stations_from}
use Rattle.run_judge.proofs.channels.Channels.opened.Given as goal

abbrev pub invariant-loop-station : goal.invariant-loop-station
invariant-loop-station l =
    l.found.items ++ stations_from (is_opened_by l.message) l.station (drop l.station l.views-items)
    ≡ stations_from (is_opened_by l.message) 0 l.views-items
