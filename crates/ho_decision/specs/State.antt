-- SPDX-License-Identifier: MIT OR Apache-2.0
-- The state of `Averages`, and the decision over this state.
use Rattle.std.specs.Prelude.{◌≡◌, ℕ, true, List, [], ◌∷◌, ◌++◌, if◌then◌else◌}
use Rattle.dtap_codec.specs.declared.report.Report.{Report}
use Rattle.ho_decision.specs.declared.settings.TheConstants.{MAX_WINDOW}
use Rattle.ho_decision.specs.Settings.{Settings}
use Rattle.ho_decision.specs.declared.decision.Decision.{Decision}
use Rattle.ho_decision.specs.Average.{last}
use Rattle.ho_decision.specs.Decision.{Decides, is_due}

-- the settings, the last valid reports (at most MAX_WINDOW, the oldest first), and the number of
-- the last report, 0 if there is no report
pub record State : Type 0 where
  pub settings : Settings
  pub reports : List Report
  pub number : ℕ

abbrev pub new_state : Settings → State
new_state settings = record { settings = settings; reports = []; number = 0 }

-- the state after a report with its number; an invalid report changes nothing
abbrev pub after_report : State → Report → ℕ → State
after_report state report number =
    if report.valid
    then (record state {
      reports = last MAX_WINDOW (state.reports ++ report ∷ []);
      number = number;
    })
    else state

-- `decision` is the decision over the reports of the state
abbrev pub DecidesFor : State → Decision → Type 0
DecidesFor state decision = Decides state.settings state.reports state.number decision

-- the report is valid, and the levels are compared after it is added with its number
abbrev pub IsCompared : State → Report → ℕ → Type 0
IsCompared state report number =
    (report.valid ≡ true) × (is_due state.settings (state.reports ++ report ∷ []) number ≡ true)
