-- SPDX-License-Identifier: MIT OR Apache-2.0
use Rattle.std.proofs.Common.{◌≡◌, ◌∙◌, Some, ap, sym}
use Rattle.conn_rules.specs.Connection.{Connection, drain_at}
use Rattle.conn_fsm.proofs.Pushing.{drain_within}
use Rattle.conn_fsm.proofs.machine.Machine.on_release_ack.Goals as goal

pub release-requires-clause-within : goal.release-requires-clause-within
release-requires-clause-within c =
    let there : drain_at c.args.at c.args.self.now.draining ≡ Some c.in-Some.place =
    ap (λ (u : Connection). drain_at c.args.at u.draining) (sym c.self.view_is) ∙ sym c.place_of.ensures ∙ c.in-Some.is in
    drain_within c.args.at c.args.self.now.draining c.in-Some.place there
