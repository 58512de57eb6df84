-- SPDX-License-Identifier: MIT OR Apache-2.0
-- What contracts see of the ends of an inbox, and what the calls of these ends do. The source of an
-- item is the place of the item's queue in the row.
use Rattle.std.specs.Prelude.{◌≡◌, ◌≢◌, ℕ, ◌<◌, ◌≤◌, List, [], ◌∷◌, ◌++◌}
use Rattle.std.specs.Prelude.{length, Result, Ok, Err, map, slice_set}
use mathlib.Core.Option.{some}
use lib.ListN.{get_elem?}
use Rattle.atomic_table.specs.Seated.{TableId}
use Rattle.ruled_relay.specs.declared.item.Item.{Item}
use Rattle.ruled_relay.specs.declared.item.What.{What}
use Rattle.ruled_relay.specs.declared.inbox.PutFault.{PutFault}
use Rattle.ruled_relay.specs.declared.inbox.PutFault.TheVariants.{Foreign, Full}
use Rattle.ruled_relay.specs.Rule.{putting, taking, left_over}
use Rattle.ruled_relay.specs.Ends.{EndView, WasFull, knowing}
use Rattle.ruled_relay.specs.Row.{EachAt, Row}

-- The putting end of a source's queue: the identity of the queue, its capacity, the source, and all
-- items put.
pub record PassView : Type 0 where
  pub queue : TableId
  pub capacity : ℕ
  pub source : ℕ
  pub put : List What

-- the desk's end and the pass at each place are the two ends of a new queue, and the pass's source
-- is the place
abbrev pub AreNewInbox : ℕ → Row → List PassView → Type 0
AreNewInbox capacity desk passes =
    (at : ℕ) (e : EndView What) (p : PassView)
    → get_elem? desk at ≡ some e → get_elem? passes at ≡ some p
    → (e ≡ record { queue = p.queue; capacity = capacity; seen = taking [] })
    × (p ≡ record { queue = p.queue; capacity = capacity; source = at; put = [] })

-- Ok: the item's source is that of the pass, and the item becomes the last of the items put.
-- Foreign: the item's source is another source. Full: the queue was full and held the last items
-- that the pass put. On Err, the item is handed back and nothing changes.
abbrev pub PutsItem : PassView → Item → Result (Unit {0}) PutFault → PassView → Type 0
PutsItem old item (Ok _) new =
    (item.source ≡ old.source) × (new ≡ record old { put = old.put ++ item.what ∷ [] })
PutsItem old item (Err (Foreign back)) new =
    (item.source ≢ old.source) × (back ≡ item) × (new ≡ old)
PutsItem old item (Err (Full back)) new =
    (item.source ≡ old.source) × (back ≡ item)
    × WasFull old.capacity (putting old.put) × (new ≡ old)

-- the item is taken at the place of its source: it becomes the last of the items taken there
abbrev pub TakesItem : Row → Item → Row → Type 0
TakesItem old item new =
    (e : EndView What) × (get_elem? old item.source ≡ some e)
    × (new ≡ slice_set old item.source (knowing e (taking (e.seen.taken ++ item.what ∷ []))))

-- the identities of the queues of a desk, in the order of the sources
abbrev pub queues_of : Row → List TableId
queues_of row = map (λ (e : EndView What). e.queue) row

-- the ends at this place are joined: the items put are the items taken, followed by further items,
-- which don't exceed the capacity of the queue
abbrev pub IsJoined : Row → List PassView → ℕ → EndView What → Type 0
IsJoined desk passes at joined =
    (e : EndView What) × (p : PassView)
    × (get_elem? desk at ≡ some e) × (get_elem? passes at ≡ some p)
    × (joined ≡ knowing e (left_over p.put e.seen.taken))
    × ((rest : List What) × (p.put ≡ e.seen.taken ++ rest) × (length rest ≤ p.capacity))

-- the desk and its passes are joined at each place
abbrev pub AreJoined : Row → List PassView → Row → Type 0
AreJoined desk passes left = (length left ≡ length desk) × EachAt left (IsJoined desk passes)

-- at each place, all items put were taken
abbrev pub IsAllGiven : Row → Type 0
IsAllGiven row = EachAt row (λ at e. e.seen.put ≡ e.seen.taken)

-- the item is taken at the place of its source and is the next of the items put there; at each
-- place before, all items put were taken
abbrev pub GivesItem : Row → Item → Row → Type 0
GivesItem old item new =
    (e : EndView What) × (get_elem? old item.source ≡ some e)
    × (new ≡ slice_set old item.source
    (knowing e (left_over e.seen.put (e.seen.taken ++ item.what ∷ []))))
    × ((rest : List What) × (e.seen.put ≡ e.seen.taken ++ item.what ∷ rest))
    × ((at : ℕ) (d : EndView What) → at < item.source → get_elem? old at ≡ some d
    → d.seen.put ≡ d.seen.taken)
