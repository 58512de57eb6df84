-- SPDX-License-Identifier: MIT OR Apache-2.0
-- None of the cells so far is a twin.
use Rattle.std.proofs.Common.{◌≡◌, ◌≢◌, ◌<◌, ℕ, Some, true, slice_get}
use Rattle.settings.specs.Parameters.{CellParameters}
use Rattle.settings_hint.specs.Cautions.{has_same_identity}
use Rattle.settings_hint.proofs.caution.earlier_twin.Given as goal

abbrev pub invariant-loop-earlier : goal.invariant-loop-earlier
invariant-loop-earlier l =
    (earlier : ℕ) (c d : CellParameters) → earlier < l.earlier → slice_get l.cells earlier ≡ Some c
    → slice_get l.cells l.place ≡ Some d → has_same_identity c d ≢ true
