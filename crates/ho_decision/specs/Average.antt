-- SPDX-License-Identifier: MIT OR Apache-2.0
-- Averages over lists of reports, the oldest report first.
use Rattle.std.specs.Prelude.{ℕ, ◌-◌, ◌/◌, ◌==◌, Bool, false, ◌&&◌, Option, Some}
use Rattle.std.specs.Prelude.{None, option_map}
use Rattle.std.specs.Prelude.{unwrap_or, List, [], ◌∷◌, length, slice_get, drop, find, sum_by}
use Rattle.dtap_codec.specs.declared.report.Neighbour.{Neighbour}
use Rattle.dtap_codec.specs.declared.report.Report.{Report}
use Rattle.dtap_codec.specs.Report.{neighbours_of}
use Rattle.ho_decision.specs.declared.settings.Cell.{Cell}
use Rattle.ho_decision.specs.Settings.{Settings, other_arfcns}

-- the last n elements of a list, or all if the list has fewer
abbrev pub last : {X : Type 0} → ℕ → List X → List X
last n xs = drop (length xs - n) xs

-- the average of a value over the last w reports, rounded down
abbrev pub average : (Report → ℕ) → ℕ → List Report → ℕ
average value w reports = sum_by value (last w reports) / length (last w reports)

-- the average level of the serving cell
abbrev pub serving_average : Settings → List Report → ℕ
serving_average s reports = average (λ r. r.rxlev_full) s.parameters.rxlev_window reports

-- the average quality of the serving cell; None without a report
abbrev pub quality : Settings → List Report → Option ℕ
quality s [] = None
quality s (r ∷ rs) = Some (average (λ x. x.rxqual_full) s.parameters.rxqual_window (r ∷ rs))

-- whether an optional ARFCN is this one; false for None
abbrev pub is_arfcn : Option ℕ → ℕ → Bool
is_arfcn None arfcn = false
is_arfcn (Some here) arfcn = here == arfcn

-- whether an entry names a cell: its BCCH-FREQ is an index of the cell's ARFCN in the list, and its
-- BSIC is the cell's
abbrev pub names : List ℕ → Cell → Neighbour → Bool
names arfcns cell n = is_arfcn (slice_get arfcns n.bcch_freq) cell.arfcn && (n.bsic == cell.bsic)

-- the level of a cell in a report: the level of the first entry that names the cell, 0 if no entry
-- does
abbrev pub level_in : List ℕ → Cell → Report → ℕ
level_in arfcns cell r =
    unwrap_or (option_map (λ n. n.rxlev) (find (names arfcns cell) (neighbours_of r))) 0

-- the average level of a cell other than the serving one
abbrev pub neighbour_average : Settings → List Report → Cell → ℕ
neighbour_average s reports cell =
    average (level_in (other_arfcns s) cell) s.parameters.neighbour_window reports
