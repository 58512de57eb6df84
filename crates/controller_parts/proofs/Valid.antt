-- SPDX-License-Identifier: MIT OR Apache-2.0
-- A report of 16 octets, and the word that it is read as.
use Rattle.std.proofs.lemmas.Grind.{common_steps}
use Rattle.std.proofs.Common.{◌≡◌, ℕ, true, false, List, length, take, refl, ap, ◌∙◌, arith}
use Rattle.conn_messages.specs.declared.channel.Place.{Place}
use Rattle.controller_model.specs.declared.word.Word.TheVariants.{Nothing, Reports}
use Rattle.controller_model.specs.Reading.{valid_word}
use Rattle.controller_model.specs.Reports.{report_reading}
use Rattle.controller_model.proofs.ReportBits.{report_is}
use Rattle.dtap_codec.specs.declared.report.Report.{Report}
use Rattle.dtap_codec.specs.declared.report.TheConstants.{REPORT_LENGTH}
use Rattle.dtap_codec.specs.Report.{IsReport}

whole : (octets : List ℕ) → length octets ≡ REPORT_LENGTH → take REPORT_LENGTH octets ≡ octets
whole octets e = grind (arith, common_steps)

pub read_as : (octets : List ℕ) (report : Report) → length octets ≡ REPORT_LENGTH → IsReport octets report → report ≡ report_reading octets
read_as octets report e is = report_is octets report is ∙ ap report_reading (whole octets e)

if_valid : (at : Place) (number : ℕ) (report : Report) → report.valid ≡ true → Reports at number report ≡ valid_word at number report
if_valid at number report e = rw e refl

if_invalid : (at : Place) (number : ℕ) (report : Report) → report.valid ≡ false → Nothing ≡ valid_word at number report
if_invalid at number report e = rw e refl

pub valid_is : (at : Place) (number : ℕ) (octets : List ℕ) (report : Report) →
    length octets ≡ REPORT_LENGTH →
    IsReport octets report →
    report.valid ≡ true →
    Reports at number report ≡ valid_word at number (report_reading octets)
valid_is at number octets report e is valid = if_valid at number report valid ∙ ap (valid_word at number) (read_as octets report e is)

pub invalid_is : (at : Place) (number : ℕ) (octets : List ℕ) (report : Report) →
    length octets ≡ REPORT_LENGTH →
    IsReport octets report →
    report.valid ≡ false →
    Nothing ≡ valid_word at number (report_reading octets)
invalid_is at number octets report e is valid = if_invalid at number report valid ∙ ap (valid_word at number) (read_as octets report e is)
