-- SPDX-License-Identifier: MIT OR Apache-2.0
-- Stations are numbered in the order of the cells.
use Rattle.std.proofs.Common.{◌≡◌, ℕ, zero, suc, ◌+◌, ◌<◌, List, [], ◌∷◌, ◌++◌, length, drop, refl, sym, ap, ◌∙◌, arith, append_assoc, add-one}
use Rattle.settings.specs.Parameters.{CellParameters}
use Rattle.world_model.specs.World.{Station, new_station, stations_from}

from_drop : (n k : ℕ) (cells : List CellParameters) →
    k < length cells →
    stations_from n (drop k cells) ≡ new_station n ∷ stations_from (n + 1) (drop (suc k) cells)
from_drop n k [] h = absurd (omega arith)
from_drop n zero (cell ∷ cells) h = refl
from_drop n (suc k) (cell ∷ cells) h = from_drop n k cells (omega arith)

pub next_station : (xs ys all : List Station) (k : ℕ) (cells : List CellParameters) → k < length cells → ys ≡ xs ++ new_station (k + 1) ∷ []
    → xs ++ stations_from (k + 1) (drop k cells) ≡ all → ys ++ stations_from (k + 1 + 1) (drop (k + 1) cells) ≡ all
next_station xs ys all k cells h is before =
    ap (λ (zs : List Station). zs ++ stations_from (k + 1 + 1) (drop (k + 1) cells)) is
    ∙ append_assoc xs (new_station (k + 1) ∷ []) (stations_from (k + 1 + 1) (drop (k + 1) cells))
    ∙ ap (λ (n : ℕ). xs ++ new_station (k + 1) ∷ stations_from (k + 1 + 1) (drop n cells)) (add-one k)
    ∙ ap (λ (zs : List Station). xs ++ zs) (sym (from_drop (k + 1) k cells h)) ∙ before
