-- SPDX-License-Identifier: MIT OR Apache-2.0
use Rattle.std.proofs.Common.{ap}
use Rattle.rerun_program.specs.Done.{differs_at}
use Rattle.rerun_program.specs.Going.{CourseState, seen}
use Rattle.rerun_program.proofs.Going.{may_go_on}
use Rattle.rerun_program.proofs.part.print_step.Goals as goal

pub returns-clause-alike : goal.returns-clause-alike
returns-clause-alike g c =
    let old = c.args.course.now in
    may_go_on old.mode c.step.new.self.mode (differs_at c.args.extent old.rerun c.args.done.now) c.in_ok-differs.differs
    c.stops_at.result (ap (λ (s : CourseState). s.mode) c.in_ok-differs.ensures.state) c.in_ok-differs.ensures.differs c.stops_at.ensures
    c.if-stops_at.false
