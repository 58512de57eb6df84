-- SPDX-License-Identifier: MIT OR Apache-2.0
use Rattle.rerun.specs.declared.difference.Extent.TheVariants.{All}
use Rattle.rerun_program.specs.Going.{seen}
use Rattle.rerun_program.proofs.Going.{does_one_ok}
use Rattle.rerun_program.proofs.part.give.Goals as goal

pub returns-in-Ok-Some-clause-does : goal.returns-in-Ok-Some-clause-does
returns-in-Ok-Some-clause-does g c =
    does_one_ok c.do_step.result (seen c.args.course.now) (seen c.do_step.new.course) All c.in-Ok-Some.done
    (g.W.Write.contents c.args.output.now) (g.W.Write.contents c.do_step.new.output) c.do_step.ensures.state c.do_step.ensures.alike c.do_step.ensures.printed
