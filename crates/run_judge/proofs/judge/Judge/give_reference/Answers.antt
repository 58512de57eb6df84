-- SPDX-License-Identifier: MIT OR Apache-2.0
use Rattle.std.proofs.Common.{is_some, sym, ap}
use Rattle.run_judge.specs.Connection.{confirmed}
use Rattle.run_judge.specs.JudgeState.{shown}
use Rattle.run_judge.proofs.JudgeLemmas.{with_connection-missing, with_connection-written}
use Rattle.run_judge.proofs.judge.Judge.give_reference.Goals as goal

pub returns-in-Some : goal.returns-in-Some
returns-in-Some c =
    let found = c.in-Some.ensures.value in
    let change = confirmed c.args.source in
    let done = c.confirm.ensures in
    with_connection-written (shown c.args.self.now) c.args.self.now.connections.entries c.args.reference (change)
    (c.get_mut.follows.lender c.confirm.new.self).entries c.in-Some.connection.now c.confirm.new.self found done
    ((c.get_mut.follows.holds c.confirm.new.self).3 (ap is_some (sym found))).0

pub returns-in-None : goal.returns-in-None
returns-in-None c =
    let change = confirmed c.args.source in
    with_connection-missing (shown c.args.self.now) c.args.self.now.connections.entries c.args.reference (change)
    c.get_mut.follows.lender-at-none.entries c.in-None.ensures.value (ap (λ m. m.entries) c.get_mut.follows.holds-at-none)
