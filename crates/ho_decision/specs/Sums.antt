-- SPDX-License-Identifier: MIT OR Apache-2.0
-- Running sums over the last reports of a list, the oldest report first.
use Rattle.std.specs.Prelude.{◌≡◌, ℕ, ◌≤◌, List, sum_by}
use Rattle.std.specs.List.{All}
use Rattle.dtap_codec.specs.declared.report.Report.{Report}
use Rattle.ho_decision.specs.declared.settings.TheConstants.{MAX_WINDOW}
use Rattle.ho_decision.specs.declared.decision.TheConstants.{QUALITY_WINDOW}
use Rattle.ho_decision.specs.declared.measure.Measure.{Measure}
use Rattle.ho_decision.specs.declared.measure.Measure.TheVariants.{ServingLevel}
use Rattle.ho_decision.specs.declared.measure.Measure.TheVariants.{ServingQuality, BadQuality}
use Rattle.ho_decision.specs.declared.running.Averaged.{Averaged}
use Rattle.ho_decision.specs.declared.running.RunningSum.{RunningSum}
use Rattle.ho_decision.specs.declared.sums.Sums.{Sums}
use Rattle.ho_decision.specs.Settings.{Settings}
use Rattle.ho_decision.specs.Average.{last}
use Rattle.ho_decision.specs.Measure.{value_of}

-- the sum of a measure over the last `window` reports
abbrev pub total_over : Measure → ℕ → List Report → ℕ
total_over measure window reports = sum_by (value_of measure) (last window reports)

-- The running sum has an allowed window, and its total is the sum of its measure over the last
-- reports of that window. Each value of the measure fits an octet.
pub record IsSum (reports : List Report) (sum : RunningSum) : Type 0 where
  pub window : (1 ≤ sum.of.window) × (sum.of.window ≤ MAX_WINDOW)
  pub total : sum.total ≡ total_over sum.of.measure sum.of.window reports
  pub octets : All (λ r. value_of sum.of.measure r ≤ 255) reports

-- each running sum has as total the sum of its measure over its window of `reports`
pub record AreSums (reports : List Report) (sums : Sums) : Type 0 where
  pub serving_level : IsSum reports sums.serving_level
  pub serving_quality : IsSum reports sums.serving_quality
  pub bad_quality : IsSum reports sums.bad_quality

abbrev pub averaged : Measure → ℕ → Averaged
averaged measure window = record { measure = measure; window = window }

-- The sums have the measures and windows of these settings: the serving cell's level and quality,
-- and the count of reports with bad quality.
pub record AreOf (s : Settings) (sums : Sums) : Type 0 where
  pub serving_level : sums.serving_level.of ≡ averaged ServingLevel s.parameters.rxlev_window
  pub serving_quality : sums.serving_quality.of ≡ averaged ServingQuality s.parameters.rxqual_window
  pub bad_quality : sums.bad_quality.of ≡ averaged BadQuality QUALITY_WINDOW

-- The sums `before` and `after` have the same measures and windows.
pub record AreOfSame (before after : Sums) : Type 0 where
  pub serving_level : after.serving_level.of ≡ before.serving_level.of
  pub serving_quality : after.serving_quality.of ≡ before.serving_quality.of
  pub bad_quality : after.bad_quality.of ≡ before.bad_quality.of
