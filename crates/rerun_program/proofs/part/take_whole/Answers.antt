-- SPDX-License-Identifier: MIT OR Apache-2.0
use Rattle.std.proofs.Common.{option_map}
use Rattle.rerun_program.specs.Going.{seen}
use Rattle.rerun_program.specs.GoingLaws.{goes_both}
use Rattle.rerun_program.proofs.part.take_whole.Goals as goal

pub loop-this-preserved : goal.loop-this-preserved
loop-this-preserved g c =
    goes_both c.args.plan (option_map seen c.args.course.now) (option_map seen c.loop-this.course)
    (option_map seen c.take_entry.new.course) (g.W.Write.contents c.args.output.now) (g.W.Write.contents c.loop-this.output)
    (g.W.Write.contents c.take_entry.new.output) c.loop-this.invariant c.in_ok-take_entry.ensures.goes
