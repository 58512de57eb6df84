-- SPDX-License-Identifier: MIT OR Apache-2.0
use Rattle.conn_fsm.proofs.Pushing.{joined_more, tenure_wants}
use Rattle.conn_fsm.proofs.machine.Machine.held_up.Goals as goal

pub loop-tenure-preserved : goal.loop-tenure-preserved
loop-tenure-preserved c =
    joined_more c.args.sapi c.args.self.now.up.tenures c.loop-tenure.tenure c.loop-tenure.list.items c.copy_tenure.new.list.items c.in_ok-copy_tenure.ensures.list c.loop-tenure.invariant

pub returns-in_err-copy_tenure-clause-memory : goal.returns-in_err-copy_tenure-clause-memory
returns-in_err-copy_tenure-clause-memory c =
    tenure_wants c.from_residual.result c.loop-tenure.tenure c.args.sapi c.args.self.now.up.tenures c.in_err-copy_tenure.ensures.memory
