-- SPDX-License-Identifier: MIT OR Apache-2.0
use Rattle.std.proofs.Common.{drop}
use Rattle.conn_rules.specs.Connection.{first_channel}
use Rattle.conn_fsm.proofs.Pushing.{tenure_put}
use Rattle.conn_fsm.proofs.machine.Machine.put_tenure.Goals as goal

pub returns : goal.returns
returns c =
    let s = c.args.self.now in
    tenure_put c.args.reference (first_channel (drop c.args.tenure s.draining) s.serving) c.args.tenure s.up.tenures c.args.put.now c.put_tenure_of.new.put c.put_tenure_of-2.new.put
    c.in_ok-put_tenure_of-2.ensures c.in_ok-put_tenure_of.ensures
