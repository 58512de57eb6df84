-- SPDX-License-Identifier: MIT OR Apache-2.0
-- The elements that are left give the same answer as all elements.
use Rattle.std.proofs.Common.{◌≡◌, drop, nat_eq}
use Rattle.toml.specs.View.{items_view}
use Rattle.settings.specs.Parameters.{all_differ}
use Rattle.settings.specs.Tables.{numbers_in}
use Rattle.settings.proofs.repeats.are_different.Given as goal

abbrev pub invariant-loop-i : goal.invariant-loop-i
invariant-loop-i l = all_differ nat_eq (numbers_in (items_view (drop l.i l.channels))) ≡ all_differ nat_eq (numbers_in (items_view l.channels))
