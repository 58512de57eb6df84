-- SPDX-License-Identifier: MIT OR Apache-2.0
-- The number of the first 16 octets writes at most one report.
use Rattle.std.proofs.Common.{Ok, take, ap, rules}
use Rattle.std.specs.Int.{from_be_bytes, w128}
use Rattle.dtap_codec.specs.Report.{IsReport}
use Rattle.dtap_codec.specs.declared.report.TheConstants.{REPORT_LENGTH}
use Rattle.dtap_codec.proofs.Reports.{same_report}
use Rattle.dtap_codec.proofs.report.Report.read.Goals as goal

pub returns-clause-only : goal.returns-clause-only
returns-clause-only c =
    λ report is.
    let found : IsReport c.args.octets.now c.report_of.result = search rules in
    ap Ok (same_report (from_be_bytes w128 (take REPORT_LENGTH c.args.octets.now)) c.report_of.result report found.value is.value)
