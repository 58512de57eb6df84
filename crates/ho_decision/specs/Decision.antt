-- SPDX-License-Identifier: MIT OR Apache-2.0
-- The handover decision, from a list of reports, the oldest report first, and the number of the
-- last report.
use Rattle.std.specs.Prelude.{◌≡◌, ◌≢◌, ℕ, ◌+◌, ◌-◌, ◌%◌, ◌<◌}
use Rattle.std.specs.Prelude.{◌≤◌, ◌==◌, nat_le, Bool}
use Rattle.std.specs.Prelude.{true, false, ◌||◌, List, [], length, count_by, slice_index_or}
use Rattle.dtap_codec.specs.declared.report.Report.{Report}
use Rattle.ho_decision.specs.declared.decision.Decision.{Decision}
use Rattle.ho_decision.specs.declared.decision.Decision.TheVariants.{Stay, Move}
use Rattle.ho_decision.specs.declared.decision.TheConstants.{BAD_REPORTS, QUALITY_WINDOW}
use Rattle.ho_decision.specs.declared.measure.TheConstants.{BAD_QUALITY}
use Rattle.ho_decision.specs.Settings.{Settings}
use Rattle.ho_decision.specs.Average.{last, serving_average, neighbour_average}

-- whether a report has bad quality
abbrev pub is_bad : Report → Bool
is_bad r = nat_le BAD_QUALITY r.rxqual_full

-- Whether the levels are compared: at least three of the last four reports have bad quality, the
-- serving cell's average level is 0, or the last report ends an interval.
abbrev pub is_due : Settings → List Report → ℕ → Bool
is_due s reports number =
    nat_le BAD_REPORTS (count_by is_bad (last QUALITY_WINDOW reports))
    || (serving_average s reports == 0)
    || (number % s.parameters.interval == s.parameters.interval - 1)

-- the average level that a neighbour has to reach
abbrev pub bound : Settings → List Report → ℕ
bound s reports = serving_average s reports + s.parameters.hysteresis

-- the average level of the cell at `place`, from 0, in the settings
abbrev pub average_at : Settings → List Report → ℕ → ℕ
average_at s reports place =
    neighbour_average s reports (slice_index_or s.cells place (record { arfcn = 0; bsic = 0 }))

-- the cell at this place, from 0, is among the first `many` and isn't the serving one
pub record IsOther (s : Settings) (many place : ℕ) : Type 0 where
  pub there : place < many
  pub other : place + 1 ≢ s.serving

-- No cell among the first `many` cells reaches the bound, except perhaps the serving cell.
abbrev pub NoneReaches : Settings → List Report → ℕ → Type 0
NoneReaches s reports many =
    (place : ℕ) → IsOther s many place → average_at s reports place < bound s reports

-- The cell at `place` is chosen among the first `many` cells, without the serving cell. Its average
-- level reaches the bound, no average level of these cells is greater, and the average levels of
-- the cells before `place` are less.
pub record IsChosen (s : Settings) (reports : List Report) (many place : ℕ) : Type 0 where
  pub cell : IsOther s many place
  pub reaches : bound s reports ≤ average_at s reports place
  pub greatest : (j : ℕ) → IsOther s many j → average_at s reports j ≤ average_at s reports place
  pub first : (j : ℕ) → IsOther s many j → j < place
      → average_at s reports j < average_at s reports place

-- this decision is the choice among the first `many` cells; cells are numbered from 1
abbrev pub Chooses : Settings → List Report → ℕ → Decision → Type 0
Chooses s reports many Stay = NoneReaches s reports many
Chooses s reports many (Move number) =
    (place : ℕ) × (number ≡ place + 1) × IsChosen s reports many place

-- `decision` is the handover decision: `Stay` if there is no report or if the levels aren't
-- compared, else the choice among all cells.
pub record Decides
    (s : Settings) (reports : List Report) (number : ℕ) (decision : Decision) : Type 0 where
  pub none : reports ≡ [] → decision ≡ Stay
  pub not_due : is_due s reports number ≡ false → decision ≡ Stay
  pub due : reports ≢ [] → is_due s reports number ≡ true
      → Chooses s reports (length s.cells) decision
