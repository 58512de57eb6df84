-- SPDX-License-Identifier: MIT OR Apache-2.0
use Rattle.std.proofs.Common.{refl}
use Rattle.std.proofs.lemmas.Result.{on_ok_weaker}
use Rattle.rerun_program.proofs.Going.{flushed}
use Rattle.rerun_program.proofs.run.RunSink.take.Goals as goal

pub returns-clause-taken : goal.returns-clause-taken
returns-clause-taken g c =
    let old = c.args.self.now in
    on_ok_weaker c.take_whole-taken.result
    (λ goes. (
      refl,
      flushed old.plan old.course c.take_whole-taken.new.course (g.W.Write.contents old.output.now)
          (g.W.Write.contents c.take_whole-taken.new.output) (g.W.Write.contents c.flush.new.self) goes c.in_ok-flush.ensures.bytes,
    ))
    c.take_whole-taken.ensures
