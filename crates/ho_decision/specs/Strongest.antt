-- SPDX-License-Identifier: MIT OR Apache-2.0
-- An upper bound of the sum of any cell's levels.
use Rattle.std.specs.Prelude.{◌<◌, ◌≤◌, ◌-◌, ◌^◌, ℕ, List, Option, sum_by}
use Rattle.dtap_codec.specs.declared.report.Report.{Report}
use Rattle.ho_decision.specs.Average.{last}
use Rattle.ho_decision.specs.Measure.{level_at}

-- the levels of any one cell in the last `window` reports add up to at most `most`, unless `most`
-- is the greatest 16-bit number
abbrev pub IsStrongest : ℕ → List Report → ℕ → Type 0
IsStrongest window reports most =
    (place : Option ℕ) (bsic : ℕ) → most < 2 ^ 16 - 1
    → sum_by (level_at place bsic) (last window reports) ≤ most
