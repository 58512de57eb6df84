-- SPDX-License-Identifier: MIT OR Apache-2.0
use Rattle.judge_program.proofs.Running.{refused_line}
use Rattle.judge_program.proofs.run.next_line.Goals as goal

pub returns-in-Err-clause-err : goal.returns-in-Err-clause-err
returns-in-Err-clause-err c =
    refused_line c.args.lines.now c.next.new.self c.count.result c.in-Err.fault c.at_line.result c.at_line.ensures c.in-Err.ensures
