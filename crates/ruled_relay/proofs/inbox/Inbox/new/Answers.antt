-- SPDX-License-Identifier: MIT OR Apache-2.0
use Rattle.std.proofs.Common.{ap}
use Rattle.ruled_relay.proofs.Making.{more_made, pass_at}
use Rattle.ruled_relay.proofs.inbox.Inbox.new.Goals as goal

pub loop-source-preserved : goal.loop-source-preserved
loop-source-preserved c =
    let so_far = c.loop-source.invariant in
    more_made c.args.capacity c.loop-source.source c.loop-source.desk.items c.push.new.self.items c.loop-source.passes.items c.push-in-loop-source.new.self.items
    c.in_ok-taking.taking c.in_ok-taking.putting _ c.in_ok-push.ensures.items c.in_ok-push-2.ensures.items so_far.0 so_far.1 so_far.2 so_far.3 so_far.4 c.in_ok-taking.ensures
    (ap (pass_at c.loop-source.source) c.putting.view_is)
