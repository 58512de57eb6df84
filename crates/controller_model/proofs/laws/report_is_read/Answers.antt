-- SPDX-License-Identifier: MIT OR Apache-2.0
use Rattle.controller_model.proofs.ReportBits.{report_is}
use Rattle.controller_model.proofs.laws.report_is_read.Goals as goal

pub returns : goal.returns
returns c = report_is
