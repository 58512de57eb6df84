-- SPDX-License-Identifier: MIT OR Apache-2.0
use Rattle.link_workers.proofs.Letting.{each_one, each_shut}
use Rattle.link_workers.proofs.gated_pass.GatedPass.put.Goals as goal

pub returns-in_err-ask-clause-each : goal.returns-in_err-ask-clause-each
returns-in_err-ask-clause-each g c = each_shut _ _ c.args.self.now.pass c.ask.new.self.pass c.ask.ensures.same.1 c.in_err-ask.ensures.passed

pub returns-clause-each : goal.returns-clause-each
returns-clause-each g c =
    each_one _ _ c.args.self.now.pass c.ask.new.self.pass c.put_once_there_is_room.new.pass c.args.what c.ask.ensures.same.1 c.put_once_there_is_room.ensures c.in_ok-ask.ensures.passed
