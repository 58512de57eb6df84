-- SPDX-License-Identifier: MIT OR Apache-2.0
use Rattle.rerun_program.proofs.Going.{last_goes}
use Rattle.rerun_program.proofs.part.do_last.Goals as goal

pub returns-in-Some : goal.returns-in-Some
returns-in-Some g c =
    last_goes c.args.plan c.do_step.result c.args.course.now c.in-Some.course c.do_step.new.course c.args.extent c.args.last
    (g.W.Write.contents c.args.output.now) (g.W.Write.contents c.do_step.new.output) c.in-Some.is c.do_step.ensures.state c.do_step.ensures.alike
    c.do_step.ensures.printed
