-- SPDX-License-Identifier: MIT OR Apache-2.0
use Rattle.std.proofs.Common.{◌≡◌, fold, take}
use Rattle.ho_decision.specs.Settings.{with_cell}
use Rattle.ho_decision.proofs.settings.add_frequencies.Given as goal

-- the cells so far
abbrev pub invariant-loop-cell : goal.invariant-loop-cell
invariant-loop-cell l = l.frequencies.items ≡ fold with_cell l.initial.frequencies.items (take l.cell-index l.cells)
