-- SPDX-License-Identifier: MIT OR Apache-2.0
use Rattle.std.proofs.Common.{arith}
use Rattle.run_record.specs.Reading.{first_difference}
use Rattle.run_record.proofs.Judged.{right_ends}
use Rattle.run_record.proofs.record_reader.first_difference.Goals as goal

pub returns-else-at-right : goal.returns-else-at-right
returns-else-at-right c =
    right_ends c.loop-at.at (first_difference c.args.left.now c.args.right.now) c.args.left.now c.args.right.now
    c.loop-at.invariant.same (omega (arith, c.if-at-right.false))
