-- SPDX-License-Identifier: MIT OR Apache-2.0
-- The elements that are left give the same answer as all elements.
use Rattle.std.proofs.Common.{◌≡◌, drop}
use Rattle.std.specs.List.{list_all}
use Rattle.toml.specs.View.{items_view}
use Rattle.settings.specs.Parameters.{channels_differ}
use Rattle.settings.specs.Tables.{cells_of}
use Rattle.settings.proofs.repeats.all_channels_differ.Given as goal

abbrev pub invariant-loop-cell : goal.invariant-loop-cell
invariant-loop-cell l = list_all channels_differ (cells_of (items_view (drop l.cell-index l.cells))) ≡ list_all channels_differ (cells_of (items_view l.cells))
