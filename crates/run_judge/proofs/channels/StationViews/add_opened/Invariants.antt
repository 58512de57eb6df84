-- SPDX-License-Identifier: MIT OR Apache-2.0
use Rattle.std.proofs.Common.{◌≡◌, ◌++◌, drop}
use Rattle.run_judge.specs.Channels.{channels_from, is_opened_by}
use Rattle.run_judge.proofs.channels.StationViews.add_opened.Given as goal

abbrev pub invariant-loop-number : goal.invariant-loop-number
invariant-loop-number l =
    l.found.items ++ channels_from (is_opened_by l.message) l.station l.number (drop l.number l.view-items)
    ≡ l.initial.found.items ++ channels_from (is_opened_by l.message) l.station 0 l.view-items
