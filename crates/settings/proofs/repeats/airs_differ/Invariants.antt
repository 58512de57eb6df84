-- SPDX-License-Identifier: MIT OR Apache-2.0
-- The elements that are left give the same answer as all elements.
use Rattle.std.proofs.Common.{◌≡◌, drop}
use Rattle.toml.specs.View.{items_view}
use Rattle.settings.specs.Parameters.{all_differ, same_air}
use Rattle.settings.specs.Tables.{cells_of}
use Rattle.settings.proofs.repeats.airs_differ.Given as goal

abbrev pub invariant-loop-i : goal.invariant-loop-i
invariant-loop-i l = all_differ same_air (cells_of (items_view (drop l.i l.cells))) ≡ all_differ same_air (cells_of (items_view l.cells))
