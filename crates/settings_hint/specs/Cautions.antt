-- SPDX-License-Identifier: MIT OR Apache-2.0
-- Cells that the switch can't tell apart, since they have the same LAC and CI.
use Rattle.std.specs.Prelude.{◌≡◌, ◌≢◌, ◌<◌, ℕ, Bool, true, ◌&&◌, ◌==◌, List, Some}
use Rattle.std.specs.Prelude.{slice_get}
use Rattle.settings.specs.Parameters.{CellParameters}

-- The cells have the same LAC and the same CI.
abbrev pub has_same_identity : CellParameters → CellParameters → Bool
has_same_identity c d =
    (c.location_area_code == d.location_area_code) && (c.cell_identity == d.cell_identity)

-- The cells at the places i and j have the same LAC and the same CI.
abbrev pub AreTwins : List CellParameters → ℕ → ℕ → Type 0
AreTwins cells i j =
    (c d : CellParameters) → slice_get cells i ≡ Some c → slice_get cells j ≡ Some d
    → has_same_identity c d ≡ true

-- The cell at `place` has a twin at the earlier place `earlier`.
abbrev pub IsEarlierTwin : List CellParameters → ℕ → ℕ → Type 0
IsEarlierTwin cells place earlier = (earlier < place) × AreTwins cells earlier place

-- No earlier cell is a twin of the cell at this place.
abbrev pub HasNoTwin : List CellParameters → ℕ → Type 0
HasNoTwin cells place =
    (earlier : ℕ) (c d : CellParameters) → earlier < place → slice_get cells earlier ≡ Some c
    → slice_get cells place ≡ Some d → has_same_identity c d ≢ true
