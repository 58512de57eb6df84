-- SPDX-License-Identifier: MIT OR Apache-2.0
use Rattle.rerun_program.proofs.Going.{flushed}
use Rattle.rerun_program.proofs.run.Run.end.Goals as goal

pub returns-clause-goes : goal.returns-clause-goes
returns-clause-goes g c =
    let old = c.args.self.now in
    let new = c.end_step.new.self in
    flushed old.plan old.course new.course (g.W.Write.contents old.output.now) (g.W.Write.contents new.output.now)
    (g.W.Write.contents c.flush.new.self) c.in_ok-end_step.ensures c.in_ok-flush.ensures.bytes
