-- SPDX-License-Identifier: MIT OR Apache-2.0
-- The elements that are left give the same answer as all elements.
use Rattle.std.proofs.Common.{◌≡◌, drop}
use Rattle.toml.specs.View.{items_view}
use Rattle.settings.specs.Faults.{all_items, is_channel}
use Rattle.settings.proofs.channels.are_channels.Given as goal

abbrev pub invariant-loop-value : goal.invariant-loop-value
invariant-loop-value l = all_items is_channel (items_view (drop l.value-index l.values)) ≡ all_items is_channel (items_view l.values)
