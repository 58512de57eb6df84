-- SPDX-License-Identifier: MIT OR Apache-2.0
use Rattle.std.proofs.Common.{length, sym, ap, ◌∙◌}
use Rattle.controller_worker.specs.Seen.{seen}
use Rattle.controller_worker.proofs.Courses.{alone_both, alone_none}
use Rattle.controller_worker.proofs.Marking.{alone_ends}
use Rattle.controller_worker.proofs.worker.CallWorker.end_alone.Goals as goal

pub loop-init : goal.loop-init
loop-init g c = (tt, tt, alone_none (seen g.K.Clock.told c.args.self.now), c.requires)

pub returns-then-self-len-clause-course : goal.returns-then-self-len-clause-course
returns-then-self-len-clause-course g c =
    alone_ends (seen g.K.Clock.told c.args.self.now) (seen g.K.Clock.told c.put_waiting.new.self) (seen g.K.Clock.told c.put_ends.new.self)
    (alone_both (seen g.K.Clock.told c.args.self.now) (seen g.K.Clock.told c.loop.self) (seen g.K.Clock.told c.put_waiting.new.self) c.loop.invariant.2 c.put_waiting.ensures.course) c.put_ends.ensures

pub loop-preserved : goal.loop-preserved
loop-preserved g c = (
  tt,
  tt,
  alone_ends (seen g.K.Clock.told c.args.self.now) (seen g.K.Clock.told c.put_waiting.new.self) (seen g.K.Clock.told c.put_ends.new.self)
      (alone_both (seen g.K.Clock.told c.args.self.now) (seen g.K.Clock.told c.loop.self) (seen g.K.Clock.told c.put_waiting.new.self) c.loop.invariant.2 c.put_waiting.ensures.course) c.put_ends.ensures,
  ap (λ s. length s.marks) c.put_ends.ensures.kept ∙ c.put_waiting.ensures.marks ∙ c.loop.invariant.3 ∙ sym c.put_waiting.ensures.count ∙ sym c.put_ends.ensures.count,
)
