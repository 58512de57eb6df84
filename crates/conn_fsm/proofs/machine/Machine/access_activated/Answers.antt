-- SPDX-License-Identifier: MIT OR Apache-2.0
use Rattle.std.proofs.Common.{rules}
use Rattle.conn_rules.specs.Connection.{is_at}
use Rattle.conn_rules.specs.Table.{assign_immediately}
use Rattle.conn_fsm.proofs.Keeping.{fitting}
use Rattle.conn_fsm.proofs.machine.Machine.access_activated.Goals as goal

pub returns-clause-done : goal.returns-clause-done
returns-clause-done c =
    let s = c.args.self.now in
    fitting (is_at c.args.at.now s.serving) (assign_immediately s) s c.assign_immediately.new.self c.args.outputs.now.outs c.assign_immediately.new.outputs.outs
    (search rules) c.in_ok-assign_immediately.ensures.done
