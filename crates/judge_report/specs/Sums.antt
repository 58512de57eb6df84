-- SPDX-License-Identifier: MIT OR Apache-2.0
-- The numbers of printed connections, the lines before and after the connections, and the exit
-- status.
use Rattle.std.specs.Prelude.{ℕ, ◌-◌, ◌==◌, ◌||◌, not, Bool, if◌then◌else◌}
use Rattle.std.specs.Prelude.{List, [], ◌∷◌, ◌++◌, codes, decimal, fold}
use Rattle.std.specs.Option.{is_some}
use Rattle.judge_orders.specs.declared.judged.Judged.{Judged}
use Rattle.run_judge.specs.Flow.{counted}
use Rattle.judge_report.specs.declared.style.Form.{Form}
use Rattle.judge_report.specs.declared.style.Form.TheVariants.{Text, Tap}
use Rattle.judge_report.specs.declared.style.Strictness.{Strictness}
use Rattle.judge_report.specs.declared.style.Strictness.TheVariants.{Lenient, Strict}
use Rattle.judge_report.specs.declared.sums.Sums.{Sums}
use Rattle.judge_report.specs.ConnectionText.{is_blamed, plural_end}
use Rattle.judge_report.specs.JudgedText.{judged_text}

abbrev pub no_sums : Sums
no_sums = record { printed = 0; blamed = 0; unjudged = 0 }

abbrev pub counted_if : Bool → ℕ → ℕ
counted_if holds n = if holds then counted n else n

abbrev pub with_one : Sums → Judged → Sums
with_one sums j = record {
  printed = counted sums.printed;
  blamed = counted_if (is_blamed j.connection) sums.blamed;
  unjudged = counted_if (is_some j.connection.unjudged) sums.unjudged;
}

abbrev pub sums_of : List Judged → Sums
sums_of connections = fold with_one no_sums connections

-- ---- the lines before and after the connections

abbrev pub start_text : Form → List ℕ
start_text Text = []
start_text Tap = codes "TAP version 14\n"

abbrev pub sums_text : Sums → List ℕ
sums_text sums =
    decimal sums.printed ++ codes " connection" ++ plural_end sums.printed ++ codes ": "
    ++ decimal (sums.printed - sums.blamed) ++ codes " in order, "
    ++ decimal sums.blamed ++ codes " not, "
    ++ decimal sums.unjudged ++ codes " not judged to the end\n"

-- The lines after the connections: the sums, and in TAP the plan.
abbrev pub end_text : Form → Sums → List ℕ
end_text Text sums = sums_text sums
end_text Tap sums =
    codes "# " ++ sums_text sums ++ codes "1.." ++ decimal sums.printed ++ codes "\n"

-- ---- the connections

-- The texts of connections that follow those counted in `sums`.
abbrev pub texts_behind : ℕ → Form → Strictness → Sums → List Judged → List ℕ
texts_behind m form strictness sums [] = []
texts_behind m form strictness sums (j ∷ js) =
    judged_text m form strictness (counted sums.printed) j
    ++ texts_behind m form strictness (with_one sums j) js

-- The whole output for these connections; N(SD) is modulo m.
abbrev pub report_text : ℕ → Form → Strictness → List Judged → List ℕ
report_text m form strictness connections =
    start_text form ++ texts_behind m form strictness no_sums connections
    ++ end_text form (sums_of connections)

-- ---- the status: 1 if the controller has a fault, or if, under `Strict`, a connection isn't
-- judged to the end

abbrev pub fails : Strictness → Sums → Bool
fails Lenient sums = not (sums.blamed == 0)
fails Strict sums = not (sums.blamed == 0) || not (sums.unjudged == 0)

abbrev pub status_of_sums : Strictness → Sums → ℕ
status_of_sums strictness sums = if fails strictness sums then 1 else 0
