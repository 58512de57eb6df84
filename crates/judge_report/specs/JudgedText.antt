-- SPDX-License-Identifier: MIT OR Apache-2.0
-- All lines that are printed for a connection.
use Rattle.std.specs.Prelude.{ℕ, List, [], ◌++◌, codes, Option, Some, None}
use Rattle.judge_orders.specs.declared.judged.Fit.{Fit}
use Rattle.judge_orders.specs.declared.judged.Fit.TheVariants as fits
use Rattle.judge_orders.specs.declared.judged.Judged.{Judged}
use Rattle.judge_report.specs.declared.style.Form.{Form}
use Rattle.judge_report.specs.declared.style.Strictness.{Strictness}
use Rattle.judge_report.specs.ConnectionText.{connection_text, lead_text}

-- Which of the two orders fit, if mobiles sent the same first message on two channels and both
-- orders were tried.
abbrev pub fit_text : Fit → List ℕ
fit_text fits.One =
    codes "two channels with this first message: the other way round not in order"
fit_text fits.Both =
    codes "two channels with this first message: in order either way round"
fit_text fits.Neither =
    codes "two channels with this first message: in order neither way round"

abbrev pub fit_line : Form → Option Fit → List ℕ
fit_line form None = []
fit_line form (Some fit) = lead_text form ++ fit_text fit ++ codes "\n"

abbrev pub judged_text : ℕ → Form → Strictness → ℕ → Judged → List ℕ
judged_text m form strictness place j =
    connection_text m form strictness place j.connection ++ fit_line form j.fit
