-- SPDX-License-Identifier: MIT OR Apache-2.0
-- Checks the definitions on literal values.
use Rattle.std.proofs.Common.{◌≡◌, ℕ, List, [], ◌∷◌, map, true, false, refl}
use Rattle.settings.specs.Parameters.{CellParameters, bsic_of}
use Rattle.settings_hint.specs.Cautions.{has_same_identity}
use Rattle.settings_hint.specs.Lines.{octets_before}

-- ---- places

before : map (λ place. octets_before place (91 ∷ 10 ∷ 97 ∷ [])) (0 ∷ 2 ∷ 3 ∷ 9 ∷ [])
    ≡ [] ∷ (91 ∷ 10 ∷ []) ∷ (91 ∷ 10 ∷ 97 ∷ []) ∷ (91 ∷ 10 ∷ 97 ∷ []) ∷ []
before = refl

-- ---- cells

abbrev a_cell : ℕ → ℕ → CellParameters
a_cell lac ci = record { listen = []; location_area_code = lac; cell_identity = ci; arfcn = 20; bsic = bsic_of 9; channels = 8 ∷ [] }

same : has_same_identity (a_cell 1 2) (a_cell 1 2) ≡ true
same = refl

other_area : has_same_identity (a_cell 1 2) (a_cell 2 2) ≡ false
other_area = refl

other_cell : has_same_identity (a_cell 1 2) (a_cell 1 1) ≡ false
other_cell = refl
