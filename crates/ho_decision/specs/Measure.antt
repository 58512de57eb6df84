-- SPDX-License-Identifier: MIT OR Apache-2.0
-- The quantities that the code reads from a report.
use Rattle.std.specs.Prelude.{ℕ, ◌==◌, Bool, false, ◌&&◌, List, Option, Some, None}
use Rattle.std.specs.Prelude.{option_map, unwrap_or, cond, position, find}
use Rattle.dtap_codec.specs.declared.report.Neighbour.{Neighbour}
use Rattle.dtap_codec.specs.declared.report.Report.{Report}
use Rattle.dtap_codec.specs.Report.{neighbours_of}
use Rattle.ho_decision.specs.declared.settings.Cell.{Cell}
use Rattle.ho_decision.specs.declared.measure.Measure.{Measure}
use Rattle.ho_decision.specs.declared.measure.Measure.TheVariants.{ServingLevel, ServingQuality}
use Rattle.ho_decision.specs.declared.measure.Measure.TheVariants.{BadQuality, NeighbourLevel}
use Rattle.ho_decision.specs.Settings.{Settings, other_arfcns}
use Rattle.ho_decision.specs.Decision.{is_bad}

-- whether an entry names the cell with this BSIC whose ARFCN has this index; false without an index
abbrev pub names_at : Option ℕ → ℕ → Neighbour → Bool
names_at None bsic n = false
names_at (Some place) bsic n = (n.bcch_freq == place) && (n.bsic == bsic)

-- the level, in a report, of the cell with this BSIC whose ARFCN has this index: the level of the
-- first entry that names the cell, 0 if no entry does
abbrev pub level_at : Option ℕ → ℕ → Report → ℕ
level_at place bsic r =
    unwrap_or (option_map (λ n. n.rxlev) (find (names_at place bsic) (neighbours_of r))) 0

-- the value of a measure in a report
abbrev pub value_of : Measure → Report → ℕ
value_of ServingLevel r = r.rxlev_full
value_of ServingQuality r = r.rxqual_full
value_of BadQuality r = cond (is_bad r) 1 0
value_of (NeighbourLevel place bsic) r = level_at place bsic r

-- the measure of a cell's level; `arfcns` is the list that BCCH-FREQ refers to
abbrev pub level_among : List ℕ → Cell → Measure
level_among arfcns cell = NeighbourLevel (position (λ a. a == cell.arfcn) arfcns) cell.bsic

abbrev pub level_of : Settings → Cell → Measure
level_of s cell = level_among (other_arfcns s) cell
