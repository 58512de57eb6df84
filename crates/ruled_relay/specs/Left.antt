-- SPDX-License-Identifier: MIT OR Apache-2.0
-- The items that an inbox still holds when its ends have been joined, and their order.
use Rattle.std.specs.Prelude.{ℕ, ◌+◌, List, [], ◌∷◌, ◌++◌, drop, length, map}
use Rattle.ruled_relay.specs.declared.item.Item.{Item}
use Rattle.ruled_relay.specs.declared.item.What.{What}
use Rattle.ruled_relay.specs.Ends.{EndView}
use Rattle.ruled_relay.specs.Row.{Row}
use Rattle.ruled_relay.specs.Inbox.{GivesItem, IsAllGiven}

-- the items that were put into the queue and not taken
abbrev pub left_of : EndView What → List What
left_of e = drop (length e.seen.taken) e.seen.put

abbrev pub items_of : ℕ → List What → List Item
items_of source whats = map (λ w. record { source = source; what = w }) whats

-- the items left in the queues of the row, in order; the first queue is that of `source`
abbrev pub left_from : ℕ → Row → List Item
left_from source [] = []
left_from source (e ∷ row) = items_of source (left_of e) ++ left_from (source + 1) row

-- repeated calls of `next` give these items, and then None
abbrev pub GivesAll : Row → List Item → Type 0
GivesAll row [] = IsAllGiven row
GivesAll row (item ∷ items) = (after : Row) × GivesItem row item after × GivesAll after items
