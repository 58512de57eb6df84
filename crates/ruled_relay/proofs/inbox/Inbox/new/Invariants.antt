-- SPDX-License-Identifier: MIT OR Apache-2.0
use Rattle.std.proofs.Common.{◌≡◌, length, map}
use Rattle.ruled_relay.specs.Row.{EachAt}
use Rattle.ruled_relay.specs.Inbox.{AreNewInbox, PassView, queues_of}
use Rattle.ruled_relay.proofs.Turns.{IsTaking}
use Rattle.ruled_relay.proofs.inbox.Inbox.new.Given as goal

abbrev pub invariant-loop-source : goal.invariant-loop-source
invariant-loop-source l =
    (length l.desk.items ≡ l.source) × (length l.passes.items ≡ l.source) × EachAt l.desk.items (λ i e. IsTaking e) × AreNewInbox l.fn.capacity l.desk.items l.passes.items
    × (queues_of l.desk.items ≡ map (λ (p : PassView). p.queue) l.passes.items)
