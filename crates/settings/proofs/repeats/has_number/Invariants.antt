-- SPDX-License-Identifier: MIT OR Apache-2.0
-- The elements that are left give the same answer as all elements.
use Rattle.std.proofs.Common.{◌≡◌, drop, nat_eq}
use Rattle.std.specs.List.{list_any}
use Rattle.toml.specs.View.{items_view}
use Rattle.settings.specs.Tables.{numbers_in}
use Rattle.settings.proofs.repeats.has_number.Given as goal

abbrev pub invariant-loop-value : goal.invariant-loop-value
invariant-loop-value l = list_any (nat_eq l.number) (numbers_in (items_view (drop l.value-index l.values))) ≡ list_any (nat_eq l.number) (numbers_in (items_view l.values))
