-- SPDX-License-Identifier: MIT OR Apache-2.0
use Rattle.std.proofs.Common.{◌∙◌}
use Rattle.program_base.proofs.Scripts.{no_event}
use Rattle.program_base.proofs.whole_script.Script.line.Goals as goal

pub returns-in-Err-BadEvent-clause-bad : goal.returns-in-Err-BadEvent-clause-bad
returns-in-Err-BadEvent-clause-bad c = λ n is.
    (no_event c.args.self.now.cells c.args.line.now c.in-Err-BadEvent.field-0 c.in-Err-BadEvent.field-0-is c.in-Err-BadEvent.ensures.only, cc is ∙ c.saturating_add-self.ensures)
