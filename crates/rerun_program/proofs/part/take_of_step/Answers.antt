-- SPDX-License-Identifier: MIT OR Apache-2.0
use Rattle.std.proofs.lemmas.Result.{on_ok_weaker}
use Rattle.rerun_program.proofs.Going.{goes_by}
use Rattle.rerun_program.proofs.part.take_of_step.Goals as goal

pub returns-in-Ok-clause-goes : goal.returns-in-Ok-clause-goes
returns-in-Ok-clause-goes g c =
    on_ok_weaker c.give_begun.result
    (goes_by c.args.plan c.args.course.now c.begin.new.course c.give_begun.new.course
    (g.W.Write.contents c.args.output.now) (g.W.Write.contents c.give_begun.new.output) c.in-Ok.ensures.begins)
    c.give_begun.ensures.does
