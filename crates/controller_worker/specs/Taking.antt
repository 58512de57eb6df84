-- SPDX-License-Identifier: MIT OR Apache-2.0
-- The items that a desk has taken.
use Rattle.std.specs.Prelude.{◌≡◌, List, ◌++◌}
use mathlib.Core.Option.{some}
use lib.ListN.{get_elem?}
use Rattle.controller_worker.specs.Steps.{whats_of}
use Rattle.ruled_relay.specs.declared.item.Item.{Item}
use Rattle.ruled_relay.specs.declared.item.What.{What}
use Rattle.ruled_relay.specs.Ends.{EndView}
use Rattle.ruled_relay.specs.Inbox.{queues_of}
use Rattle.ruled_relay.specs.Row.{EachAt, Row}

-- between `old` and `new`, these items were taken, each after the items that its source had given
-- before
abbrev pub HasTaken : Row → List Item → Row → Type 0
HasTaken old items new =
    (queues_of new ≡ queues_of old)
    × EachAt new (λ source e. (d : EndView What) × (get_elem? old source ≡ some d)
    × (e.seen.taken ≡ d.seen.taken ++ whats_of source items))
