-- SPDX-License-Identifier: MIT OR Apache-2.0
use Rattle.std.proofs.Common.{◌≡◌, take, map}
use Rattle.settings.specs.Parameters.{air_of}
use Rattle.settings.proofs.parameters.airs.Given as goal

abbrev pub invariant-loop-cell : goal.invariant-loop-cell
invariant-loop-cell l = l.airs.items ≡ map air_of (take l.cell-index l.cells)
