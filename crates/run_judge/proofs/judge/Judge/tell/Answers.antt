-- SPDX-License-Identifier: MIT OR Apache-2.0
use Rattle.std.proofs.Common.{◌≡◌, is_some, sym, ap}
use Rattle.std.proofs.lemmas.Result.{on_ok_weaker}
use Rattle.dtap_codec.specs.Number.{count_of}
use Rattle.run_judge.specs.Connection.{while_judged}
use Rattle.run_judge.specs.ConnectionSteps.{made_by}
use Rattle.run_judge.specs.JudgeState.{shown}
use Rattle.run_judge.proofs.JudgeLemmas.{with_connection-missing, with_connection-written}
use Rattle.run_judge.proofs.judge.Judge.tell.Goals as goal

pub returns-in-Some : goal.returns-in-Some
returns-in-Some c =
    let found = c.in-Some.ensures.value in
    let change = made_by (count_of c.args.self.now.modulus) c.args.frame c.args.told in
    on_ok_weaker c.take.result (λ (done : c.take.new.self ≡ while_judged change c.in-Some.connection.now).
    with_connection-written (shown c.args.self.now) c.args.self.now.connections.entries c.args.reference (while_judged change)
    (c.get_mut.follows.lender c.take.new.self).entries c.in-Some.connection.now c.take.new.self found done
    ((c.get_mut.follows.holds c.take.new.self).3 (ap is_some (sym found))).0) c.take.ensures

pub returns-in-None : goal.returns-in-None
returns-in-None c =
    with_connection-missing (shown c.args.self.now) c.args.self.now.connections.entries c.args.reference
    (while_judged (made_by (count_of c.args.self.now.modulus) c.args.frame c.args.told))
    c.get_mut.follows.lender-at-none.entries c.in-None.ensures.value (ap (λ m. m.entries) c.get_mut.follows.holds-at-none)
