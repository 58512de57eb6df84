-- SPDX-License-Identifier: MIT OR Apache-2.0
use Rattle.std.proofs.Common.{Some, ap, ◌∙◌, arith}
use Rattle.ruled_relay.specs.Inbox.{queues_of}
use Rattle.ruled_relay.proofs.Turns.{desk_kept, desk_same, desk_took}
use Rattle.ruled_relay.proofs.inbox.Desk.take.Goals as goal

pub invariant_of-self-2 : goal.invariant_of-self-2
invariant_of-self-2 g c =
    let kept = desk_kept c.self.inside.ends.items c.take_in_turn.new.ends.items c.self.inside.sources c.in_ok-item.item c.self.invariant.0 c.self.invariant.2 c.in_ok-item.ensures.one in
    let within = c.in_ok-item.ensures.one.0 in (kept.0, omega arith, kept.1)

pub returns-clause-same : goal.returns-clause-same
returns-clause-same g c =
    desk_same c.self.inside.ends.items c.take_in_turn.new.ends.items (Some c.in_ok-item.item)
    (desk_took c.self.inside.ends.items c.take_in_turn.new.ends.items c.self.inside.sources c.in_ok-item.item c.self.invariant.2 c.in_ok-item.ensures.one)
    ∙ ap queues_of c.self.view_is
