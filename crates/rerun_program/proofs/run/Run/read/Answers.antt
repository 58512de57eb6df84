-- SPDX-License-Identifier: MIT OR Apache-2.0
use Rattle.std.proofs.Common.{ap}
use Rattle.rerun_program.proofs.Going.{read_goes}
use Rattle.rerun_program.proofs.run.Run.read.Goals as goal

pub returns-clause-goes : goal.returns-clause-goes
returns-clause-goes g c =
    let old = c.args.self.now in
    let begun = c.begin_part.new.self in
    let read = c.read_octets.new.self in
    let new = c.end.new.self in
    read_goes c.end.result old.plan begun.plan read.plan old.course begun.course read.course new.course
    (g.W.Write.contents old.output.now) (g.W.Write.contents begun.output.now) (g.W.Write.contents read.output.now)
    (g.W.Write.contents new.output.now) c.begin_part.ensures.plan c.begin_part.ensures.course
    (ap g.W.Write.contents c.begin_part.ensures.output) c.in_ok-read_octets.ensures.plan c.in_ok-read_octets.ensures.goes c.end.ensures.goes
