-- SPDX-License-Identifier: MIT OR Apache-2.0
use Rattle.rerun_program.proofs.Shrinking.{takes_shorter}
use Rattle.rerun_program.proofs.part.Part.next.Goals as goal

pub returns-in-Ok : goal.returns-in-Ok
returns-in-Ok c = takes_shorter c.args.self.now.entries c.in-Ok.next c.next.new.self c.in-Ok.ensures
