-- SPDX-License-Identifier: MIT OR Apache-2.0
use Rattle.std.proofs.Common.{arith}
use Rattle.controller_parts.proofs.Valid.{valid_is, invalid_is}
use Rattle.controller_parts.proofs.reports.valid_word.Goals as goal
use Rattle.controller_parts.proofs.reports.valid_word.Goals.{in_default-via-in-Ok+else-report, in_default-via-in_default}

pub returns-in-Ok : goal.returns-in-Ok
returns-in-Ok c = valid_is _ _ _ _ c.requires c.in-Ok.ensures.found c.if-report.true

pub returns-in_default : goal.returns-in_default
returns-in_default c = elim c.in_default.branch [
  | in_default-via-in-Ok+else-report w ↦ invalid_is _ _ _ _ c.requires w.in-Ok.ensures.found w.if-report.false
  | in_default-via-in_default w ↦ absurd (omega (arith, c.requires, w.in_default.ensures.refused.1))
]
