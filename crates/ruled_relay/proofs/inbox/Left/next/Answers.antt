-- SPDX-License-Identifier: MIT OR Apache-2.0
use Rattle.std.proofs.Common.{◌≡◌, MatchOption, subst}
use Rattle.ruled_relay.specs.Row.{Row}
use Rattle.ruled_relay.specs.Inbox.{GivesItem, IsAllGiven}
use Rattle.ruled_relay.proofs.Turns.{left_kept, left_gives}
use Rattle.ruled_relay.proofs.inbox.Left.next.Goals as goal

pub invariant_of-self : goal.invariant_of-self
invariant_of-self g c = left_kept c.self.inside.ends.items c.take_among.new.ends.items c.self.inside.sources c.take_among.result c.self.invariant.0 c.self.invariant.1 c.take_among.ensures

pub returns : goal.returns
returns g c =
    subst (λ (row : Row). MatchOption c.take_among.result ((c.take_among.new.ends.items ≡ row) × IsAllGiven row) (λ item. GivesItem row item c.take_among.new.ends.items)) c.self.view_is
    (left_gives c.self.inside.ends.items c.take_among.new.ends.items c.self.inside.sources c.take_among.result c.self.invariant.0 c.self.invariant.1 c.take_among.ensures)
